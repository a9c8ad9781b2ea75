-- A merge, one frame after the other.
--     merging-first, merging-second    the next frame comes out of the first list, or of the second
--     merging-end    both lists are through
-- Assumes nothing.
use Rattle.std.proofs.Common.{◌≡◌, refl, sym, ap, ◌∙◌, arith, ℕ, ◌+◌, ◌-◌, ◌<◌, ◌≤◌, true, false, List, [], ◌∷◌, ◌++◌, length, get_or, set, take, drop}
use Rattle.std.proofs.Common.{length-drop, take_all, append_assoc}
use Rattle.std.specs.List.{All}
use Rattle.std.proofs.lemmas.Bool.{false≢true}
use Rattle.std.proofs.lemmas.List.{append-nil, nil_from_length}
use Rattle.std.proofs.lemmas.List.Elements.{All-take, All-drop}
use Rattle.order.specs.declared.FrameList.{FrameList}
use Rattle.order.specs.Places.{places, InPlaces, list_of}
use Rattle.order.specs.Merge.{merged, takes_first}
use Rattle.order.proofs.Merged.{merged-length}
use Rattle.order.proofs.Places.{tail-in-places}

abbrev pub HavePlaces : List ℕ → Type 0
HavePlaces xs = All (λ f. f < places) xs

-- a list without its first element, as a slice has it
abbrev pub behind : List ℕ → List ℕ
behind xs = take (length xs - 1) (drop 1 xs)

behind-drop : (xs : List ℕ) → behind xs ≡ drop 1 xs
behind-drop xs = take_all (length xs - 1) (drop 1 xs) (omega (arith, length-drop 1 xs))

have-places-behind : (xs : List ℕ) → HavePlaces xs → HavePlaces (behind xs)
have-places-behind xs h = All-take (λ f. f < places) (length xs - 1) (drop 1 xs) (All-drop (λ f. f < places) 1 xs h)

length-behind : (xs : List ℕ) → length (behind xs) ≡ length xs - 1
length-behind xs = omega (arith, ap length (behind-drop xs), length-drop 1 xs)

module _ (reference : List ℕ) where
  -- ---- which frame is next

  next-first : (xs ys : List ℕ) → takes_first reference xs ys ≡ true
      → (0 < length xs) × (merged reference xs ys ≡ get_or xs 0 0 ∷ merged reference (drop 1 xs) ys)
  next-first [] ys t = absurd (false≢true t)
  next-first (x ∷ []) [] t = (omega arith, refl)
  next-first (x ∷ (z ∷ xs)) [] t = (omega arith, refl)
  next-first (x ∷ xs) (y ∷ ys) t = (omega arith, rw t)

  next-second : (xs ys : List ℕ) → takes_first reference xs ys ≡ false → 0 < length xs + length ys
      → (0 < length ys) × (merged reference xs ys ≡ get_or ys 0 0 ∷ merged reference xs (drop 1 ys))
  next-second [] [] t h = absurd (omega arith)
  next-second [] (y ∷ ys) t h = (omega arith, refl)
  next-second (x ∷ xs) [] t h = absurd (cc)
  next-second (x ∷ xs) (y ∷ ys) t h = (omega arith, rw t)

  -- ---- one frame after the other

  module _ (all : List ℕ) (n : ℕ) where
    -- after k turns the list l holds k frames, and behind them the merge of what is left of both lists is the whole merge, of n frames
    pub record Merging (xs ys : List ℕ) (l : FrameList) (k : ℕ) : Type 0 where
      pub first_in_places : HavePlaces xs
      pub second_in_places : HavePlaces ys
      pub count : length xs + length ys + k ≡ n
      pub len : l.len ≡ k
      pub taken : List ℕ
      pub holds : InPlaces l.places l.len taken
      pub there : taken ++ merged reference xs ys ≡ all

    module _ {xs ys : List ℕ} {l : FrameList} {k : ℕ} (m : Merging xs ys l k) (more : k < n) (room : n ≤ places) where
      -- the list with the frame x behind its last
      abbrev pub with : ℕ → FrameList
      with x = record { places = set l.places l.len x; len = l.len + 1 }

      holds-with : (x : ℕ) → InPlaces (with x).places (with x).len (m.taken ++ (x ∷ []))
      holds-with x = tail-in-places m.holds x (omega (arith, m.len))

      there-with : {x : ℕ} {rest : List ℕ} → merged reference xs ys ≡ x ∷ rest → (m.taken ++ (x ∷ [])) ++ rest ≡ all
      there-with e = rw append_assoc (rw e at m.there)

      pub merging-first : takes_first reference xs ys ≡ true → Merging (behind xs) ys (with (get_or xs 0 0)) (k + 1)
      merging-first t =
          let e = next-first xs ys t in
          record {
            first_in_places = have-places-behind xs m.first_in_places;
            second_in_places = m.second_in_places;
            count = omega (arith, e.0, length-behind xs, m.count);
            len = omega (arith, m.len);
            taken = m.taken ++ (get_or xs 0 0 ∷ []);
            holds = holds-with (get_or xs 0 0);
            there = rw behind-drop (there-with e.1);
          }

      pub merging-second : takes_first reference xs ys ≡ false → Merging xs (behind ys) (with (get_or ys 0 0)) (k + 1)
      merging-second t =
          let e = next-second xs ys t (omega (arith, m.count)) in
          record {
            first_in_places = m.first_in_places;
            second_in_places = have-places-behind ys m.second_in_places;
            count = omega (arith, e.0, length-behind ys, m.count);
            len = omega (arith, m.len);
            taken = m.taken ++ (get_or ys 0 0 ∷ []);
            holds = holds-with (get_or ys 0 0);
            there = rw behind-drop (there-with e.1);
          }

    -- no turn is left
    pub merging-end : {xs ys : List ℕ} {l : FrameList} {k : ℕ} → Merging xs ys l k → n ≤ k → l ≡ list_of all
    merging-end {xs} {ys} {l} {k} m e =
        let none = nil_from_length (merged reference xs ys) (omega (arith, merged-length reference xs ys, m.count)) in
        let whole : m.taken ≡ all = rw (none, append-nil) at m.there in
        let made : l ≡ list_of m.taken = λ i. record { places = m.holds.is i; len = sym m.holds.len i } in
        made ∙ ap list_of whole
