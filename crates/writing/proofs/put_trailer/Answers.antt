-- `writing::put_trailer` meets its contract. Seven numbers are put one behind the other, which is one `splice` of all of them: each goes behind what the
-- buffer was given before. They lie within the buffer, whose length no call changes, so nothing wraps. Assumes nothing.
use Rattle.std.proofs.Common.{◌≡◌, ap, ◌∙◌, List, ℕ, ◌+◌, ◌≤◌, arith, length}
use Rattle.little.specs.Little.{bytes_of}
use Rattle.pages.specs.Pages.{splice}
use Rattle.pages.proofs.Splice.{splice-join}
use Rattle.trace.specs.Encode.{trailer_bytes}
use Rattle.trace.specs.declared.Trailer.{Trailer}
use Rattle.writing.proofs.put_trailer.Goals as goal

-- x in w bytes at `at`
abbrev put : ℕ → ℕ → ℕ → List ℕ → List ℕ
put at w x xs = splice at (bytes_of w x) xs

-- with `bytes_of` unfolded the length of what is put so far computes, and so does the order of the brackets
numbers-joined : (at : ℕ) (t : Trailer) (xs : List ℕ) → at ≤ length xs
    → put (at + 18) 2 t.numbers.write_cost (put (at + 16) 2 t.numbers.read_cost (put (at + 12) 4 t.numbers.pages (put (at + 10) 2 t.numbers.page_bytes
    (put (at + 8) 2 t.numbers.frames (put (at + 4) 4 t.records (put at 4 t.distance xs)))))) ≡ splice at (trailer_bytes t) xs
unfolding bytes_of trailer_bytes
numbers-joined at t xs h =
    rw (splice-join at 4, splice-join at 8, splice-join at 10, splice-join at 12, splice-join at 16, splice-join at 18)

pub returns : goal.returns
returns c =
    let at = c.args.at in
    let t = c.args.trailer in
    c.put_number-7.ensures
    ∙ ap (put (at + 18) 2 t.numbers.write_cost) (c.put_number-6.ensures
    ∙ ap (put (at + 16) 2 t.numbers.read_cost) (c.put_number-5.ensures
    ∙ ap (put (at + 12) 4 t.numbers.pages) (c.put_number-4.ensures
    ∙ ap (put (at + 10) 2 t.numbers.page_bytes) (c.put_number-3.ensures
    ∙ ap (put (at + 8) 2 t.numbers.frames) (c.put_number-2.ensures
    ∙ ap (put (at + 4) 4 t.records) c.put_number.ensures)))))
    ∙ numbers-joined at t c.args.buffer.now (omega arith)
