-- `step::read` meets its contract: the place is one of its list, and what is called for it does what the model does there. Assumes nothing.
use Rattle.std.proofs.Common.{◌≡◌, ◌∙◌, ap, Some, rules}
use Rattle.model.specs.declared.Op.TheVariants.{Read}
use Rattle.model.specs.Target.{costs}
use Rattle.step.proofs.Requests.{clean-place, dirty-place, request-is}
use Rattle.model.specs.declared.Place.TheVariants.{InClean, InDirty}
use Rattle.step.proofs.read.Goals as goal
use Rattle.step.proofs.read.Goals.{In-Some-InClean, In-Some-InDirty}

-- the place that was found
in-clean : (c : In-Some-InClean) → c.locate.result ≡ Some (InClean c.in-Some-InClean.i)
in-clean c =
    let h : c.in-Some-InClean.field-0 ≡ InClean c.in-Some-InClean.i = search rules in
    c.in-Some-InClean.is ∙ ap Some h

in-dirty : (c : In-Some-InDirty) → c.locate.result ≡ Some (InDirty c.in-Some-InDirty.i)
in-dirty c =
    let h : c.in-Some-InDirty.field-0 ≡ InDirty c.in-Some-InDirty.i = search rules in
    c.in-Some-InDirty.is ∙ ap Some h

pub read_clean-requires : goal.read_clean-requires
read_clean-requires c =
    let s = c.requires.sound in
    record { sound = s; inside = clean-place _ s _ _ c.locate.ensures (in-clean (goal.at.read_clean-requires c).In-Some-InClean) }

pub in_dirty-requires : goal.in_dirty-requires
in_dirty-requires c =
    let s = c.requires.sound in
    record { sound = s; inside = dirty-place _ s _ _ c.locate.ensures (in-dirty (goal.at.in_dirty-requires c).In-Some-InDirty) }

pub returns-in-Some-InClean : goal.returns-in-Some-InClean
returns-in-Some-InClean c =
    let s = c.requires.sound in
    c.read_clean.ensures ∙ request-is _ s _ _ c.locate.ensures _ Read (in-clean (goal.at.returns-in-Some-InClean c).In-Some-InClean)

pub returns-in-Some-InDirty : goal.returns-in-Some-InDirty
returns-in-Some-InDirty c =
    let s = c.requires.sound in
    c.in_dirty.ensures ∙ request-is _ s _ _ c.locate.ensures _ Read (in-dirty (goal.at.returns-in-Some-InDirty c).In-Some-InDirty)

pub returns-in-None : goal.returns-in-None
returns-in-None c =
    let k = costs c.args.drive.read c.args.drive.write in
    c.read.ensures ∙ request-is _ c.requires.sound _ _ c.locate.ensures k Read c.in-None.is
