-- `writing::put_parts` meets its contract. Two elements are set and a number goes behind them, which is one `splice` of all four bytes. Assumes nothing.
use Rattle.std.proofs.Common.{◌≡◌, refl, ap, ◌∙◌, List, [], ◌∷◌, ℕ, ◌+◌, ◌≤◌, arith, length, set}
use Rattle.pages.specs.Pages.{splice}
use Rattle.pages.proofs.Splice.{splice-set, splice-join, splice-length}
use Rattle.writing.proofs.put_parts.Goals as goal

two-set : (at a b : ℕ) (xs : List ℕ) → at + 2 ≤ length xs → set (set xs at a) (at + 1) b ≡ splice at (a ∷ b ∷ []) xs
two-set at a b xs h =
    let l : length (splice at (a ∷ []) xs) ≡ length xs = splice-length at (a ∷ []) xs (omega arith) in
    ap (λ (zs : List ℕ). set zs (at + 1) b) (splice-set at a xs (omega arith))
    ∙ splice-set (at + 1) b (splice at (a ∷ []) xs) (omega arith)
    ∙ splice-join at 1 (a ∷ []) (b ∷ []) xs refl (omega arith)

parts-joined : (at a b : ℕ) (ys xs : List ℕ) → at + 2 ≤ length xs → splice (at + 2) ys (set (set xs at a) (at + 1) b) ≡ splice at (a ∷ b ∷ ys) xs
parts-joined at a b ys xs h = ap (splice (at + 2) ys) (two-set at a b xs h) ∙ splice-join at 2 (a ∷ b ∷ []) ys xs refl (omega arith)

pub returns : goal.returns
returns c =
    c.put_number.ensures ∙ parts-joined c.args.at _ _ _ c.args.buffer.now (omega arith)
