-- `cut::drop_lists` meets its contract: the place is one of its list, and what is called for it does what the model does there. Assumes nothing.
use Rattle.std.proofs.Common.{◌≡◌, ◌∙◌, ap, Some, rules}
use Rattle.step.proofs.Requests.{clean-place, dirty-place}
use Rattle.cut.proofs.Drops.{drop-is}
use Rattle.model.specs.declared.Place.TheVariants.{InClean, InDirty}
use Rattle.cut.proofs.drop_lists.Goals as goal
use Rattle.cut.proofs.drop_lists.Goals.{In-Some-InClean, In-Some-InDirty}

-- the place that was found
in-clean : (c : In-Some-InClean) → c.locate.result ≡ Some (InClean c.in-Some-InClean.i)
in-clean c =
    let h : c.in-Some-InClean.field-0 ≡ InClean c.in-Some-InClean.i = search rules in
    c.in-Some-InClean.is ∙ ap Some h

in-dirty : (c : In-Some-InDirty) → c.locate.result ≡ Some (InDirty c.in-Some-InDirty.i)
in-dirty c =
    let h : c.in-Some-InDirty.field-0 ≡ InDirty c.in-Some-InDirty.i = search rules in
    c.in-Some-InDirty.is ∙ ap Some h

pub clean-requires : goal.clean-requires
clean-requires c =
    let s = c.requires.sound in
    record { sound = s; inside = clean-place _ s _ _ c.locate.ensures (in-clean (goal.at.clean-requires c).In-Some-InClean) }

pub dirty-requires : goal.dirty-requires
dirty-requires c =
    let s = c.requires.sound in
    record { sound = s; inside = dirty-place _ s _ _ c.locate.ensures (in-dirty (goal.at.dirty-requires c).In-Some-InDirty) }

pub returns-in-Some-InClean : goal.returns-in-Some-InClean
returns-in-Some-InClean c =
    c.clean.ensures ∙ drop-is c.args.pool _ _ c.locate.ensures (in-clean (goal.at.returns-in-Some-InClean c).In-Some-InClean)

pub returns-in-Some-InDirty : goal.returns-in-Some-InDirty
returns-in-Some-InDirty c =
    c.dirty.ensures ∙ drop-is c.args.pool _ _ c.locate.ensures (in-dirty (goal.at.returns-in-Some-InDirty c).In-Some-InDirty)

pub returns-in-None : goal.returns-in-None
returns-in-None c =
    c.absent.ensures ∙ drop-is c.args.pool _ _ c.locate.ensures c.in-None.is
