-- `step::place_of` meets its contract. A page that stands at no place stands in no frame of either list; else what each search found is what `place_by`
-- asks. Assumes nothing.
use Rattle.std.proofs.Common.{◌≡◌, None, sym, ◌∙◌, false, ℕ, ◌<◌, List, get_or}
use Rattle.std.proofs.lemmas.List.Elements.{All-get_or}
use Rattle.order.specs.declared.FrameList.{FrameList}
use Rattle.order.specs.Places.{places, listed, Listed}
use Rattle.order.specs.Find.{find_from, has_before}
use Rattle.order.proofs.Search.{find_from-nowhere, has_before-none}
use Rattle.step.proofs.place_of.Goals as goal

nowhere : (page : List ℕ) (wanted : ℕ) → has_before page places wanted ≡ false → (l : FrameList) → Listed l → find_from 0 page wanted (listed l) ≡ None
nowhere page wanted none l h =
    find_from-nowhere page wanted 0 (listed l)
    (λ i k. has_before-none page places wanted none (get_or (listed l) i 0) (All-get_or (λ f. f < places) (listed l) i 0 k h.low))

pub returns-then-not-stands_before : goal.returns-then-not-stands_before
returns-then-not-stands_before c =
    let none = nowhere c.args.page.now c.args.wanted (sym c.stands_before.ensures ∙ c.if-not-stands_before.true) in
    rw (none c.args.lists.now.clean c.requires.clean, none c.args.lists.now.dirty c.requires.dirty)

pub returns-in-Some : goal.returns-in-Some
returns-in-Some c = rw (sym c.find.ensures ∙ c.in-Some.is)

pub returns-in_err-i : goal.returns-in_err-i
returns-in_err-i c = c.from_residual.ensures ∙ rw (sym c.find.ensures ∙ c.in_default.is, sym c.find-2.ensures ∙ c.in_err-i.was)

pub returns : goal.returns
returns c = rw (sym c.find.ensures ∙ c.in_default.is, sym c.find-2.ensures ∙ c.in_ok-i.was)
