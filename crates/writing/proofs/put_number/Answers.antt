-- `writing::put_number` meets its contract. The part that `little::put` fills comes back as the number's bytes, as many as the part has, with the rest as it
-- was, which is `splice`. The part lies within the buffer, so nothing wraps. Assumes nothing.
use Rattle.std.proofs.Common.{◌≡◌, ap, ◌∙◌, List, ℕ, ◌+◌, ◌-◌, ◌≤◌, length}
use native.Mathlib.Nat.{add-sub_cancel_left}
use borrow.Rule.Slice.PartMut.{mid_of, put_mid}
use Rattle.little.specs.Little.{bytes_of}
use Rattle.little.proofs.Laws.{bytes_of-length}
use Rattle.pages.specs.Pages.{splice}
use Rattle.pages.proofs.Splice.{part-length}
use Rattle.pages.proofs.Pages.{part-back}
use Rattle.writing.proofs.put_number.Goals as goal

number-back : (at w x : ℕ) (xs ys : List ℕ) → at + w ≤ length xs → ys ≡ bytes_of (length (mid_of at (at + w - at) xs)) x
    → put_mid at (at + w - at) xs ys ≡ splice at (bytes_of w x) xs
number-back at w x xs ys h e =
    let l : length (mid_of at (at + w - at) xs) ≡ w = rw add-sub_cancel_left (part-length at w xs h) in
    ap (put_mid at (at + w - at) xs) (e ∙ ap (λ (n : ℕ). bytes_of n x) l) ∙ part-back at w xs (bytes_of w x) (bytes_of-length w x)

pub returns : goal.returns
returns c =
    number-back c.args.at c.args.width c.args.x c.args.buffer.now _ c.requires c.put.ensures
