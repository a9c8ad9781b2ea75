-- `step::fault::free` meets its contract. The place is one of its list, which is held by its places without the frame there. A frame of C or D is below b, so
-- its page stands in the places as in the state. Assumes nothing.
use Rattle.std.proofs.Common.{refl, ap, ◌∙◌, Some, ℕ}
use Rattle.order.proofs.Places.{in-places-get_or, remove-in-places, as-promised}
use Rattle.model.specs.declared.Choice.TheVariants.{OfEmpty, OfClean, OfDirty}
use Rattle.model.specs.declared.Victim.TheVariants.{Clean, Dirty}
use Rattle.pool.proofs.Form.{empty-in-places, clean-in-places, dirty-in-places, clean-frame, dirty-frame, listed-page}
use Rattle.step.proofs.Faults.{StandsIn, choice-stands, freed-is}
use Rattle.step.proofs.fault.free.Goals as goal
use Rattle.step.proofs.fault.free.Goals.{In-OfEmpty, In-OfClean, In-OfDirty}

-- the place is one of its list, and a frame stands there
in-empty : (c : In-OfEmpty) → StandsIn c.args.freed.now.pool (OfEmpty c.in-OfEmpty.i)
in-empty c = rw c.in-OfEmpty.is at (choice-stands _ c.requires.sound c.args.choice c.requires.choice_in)

in-clean : (c : In-OfClean) → StandsIn c.args.freed.now.pool (OfClean c.in-OfClean.i)
in-clean c = rw c.in-OfClean.is at (choice-stands _ c.requires.sound c.args.choice c.requires.choice_in)

in-dirty : (c : In-OfDirty) → StandsIn c.args.freed.now.pool (OfDirty c.in-OfDirty.i)
in-dirty c = rw c.in-OfDirty.is at (choice-stands _ c.requires.sound c.args.choice c.requires.choice_in)

pub take_out-freed-requires : goal.take_out-freed-requires
take_out-freed-requires c = let l = in-empty (goal.at.take_out-freed-requires c).In-OfEmpty in (l.place, l.fits)

pub take_out-freed-requires-in-OfClean : goal.take_out-freed-requires-in-OfClean
take_out-freed-requires-in-OfClean c = let l = in-clean (goal.at.take_out-freed-requires-in-OfClean c).In-OfClean in (l.place, l.fits)

pub take_out-freed-requires-in-OfDirty : goal.take_out-freed-requires-in-OfDirty
take_out-freed-requires-in-OfDirty c = let l = in-dirty (goal.at.take_out-freed-requires-in-OfDirty c).In-OfDirty in (l.place, l.fits)

pub page_in-requires : goal.page_in-requires
page_in-requires c = rw c.take_out-freed-in-OfClean.ensures.frame (in-clean (goal.at.page_in-requires c).In-OfClean).frame

pub page_in-requires-in-OfDirty : goal.page_in-requires-in-OfDirty
page_in-requires-in-OfDirty c = rw c.take_out-freed-in-OfDirty.ensures.frame (in-dirty (goal.at.page_in-requires-in-OfDirty c).In-OfDirty).frame

pub returns-in-OfEmpty : goal.returns-in-OfEmpty
returns-in-OfEmpty c =
    let s = c.requires.sound in
    let l = (in-empty (goal.at.returns-in-OfEmpty c).In-OfEmpty).place in
    let h = empty-in-places _ s in
    let t = c.take_out-freed.ensures in
    rw c.in-OfEmpty.is
    (freed-is _ s (as-promised t.rest (remove-in-places h _ l)) (clean-in-places _ s) (dirty-in-places _ s) (t.frame ∙ in-places-get_or h _ l) refl)

pub returns-in-OfClean : goal.returns-in-OfClean
returns-in-OfClean c =
    let s = c.requires.sound in
    let l = (in-clean (goal.at.returns-in-OfClean c).In-OfClean).place in
    let h = clean-in-places _ s in
    let t = c.take_out-freed-in-OfClean.ensures in
    rw c.in-OfClean.is
    (freed-is _ s (empty-in-places _ s) (as-promised t.rest (remove-in-places h _ l)) (dirty-in-places _ s) (t.frame ∙ in-places-get_or h _ l)
    (ap (λ (q : ℕ). Some (Clean q)) ((rw t.frame at c.page_in.ensures) ∙ listed-page _ s h _ l (clean-frame _ s _ l))))

pub returns-in-OfDirty : goal.returns-in-OfDirty
returns-in-OfDirty c =
    let s = c.requires.sound in
    let l = (in-dirty (goal.at.returns-in-OfDirty c).In-OfDirty).place in
    let h = dirty-in-places _ s in
    let t = c.take_out-freed-in-OfDirty.ensures in
    rw c.in-OfDirty.is
    (freed-is _ s (empty-in-places _ s) (clean-in-places _ s) (as-promised t.rest (remove-in-places h _ l)) (t.frame ∙ in-places-get_or h _ l)
    (ap (λ (q : ℕ). Some (Dirty q)) ((rw t.frame at c.page_in-in-OfDirty.ensures) ∙ listed-page _ s h _ l (dirty-frame _ s _ l))))
