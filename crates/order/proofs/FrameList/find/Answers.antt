-- `order::FrameList::find` meets its contract: the first place at which the test of the page passes is what `find_from` gives. Assumes nothing.
use Rattle.std.proofs.Common.{◌∙◌, sym, get_or, nat_eq, rules}
use Rattle.std.proofs.lemmas.Iterator.{YieldsList-from_slice}
use Rattle.std.proofs.lemmas.Iterator.Search.{position_from_yields_List}
use Rattle.order.specs.Places.{listed}
use Rattle.order.proofs.Search.{find_from-position}
use Rattle.order.proofs.FrameList.find.Goals as goal

pub returns : goal.returns
returns c =
    position_from_yields_List (λ f. nat_eq (get_or c.args.page.now f 0) c.args.wanted) _ _ _ c.position.ensures.ran
    (YieldsList-from_slice (listed c.args.self.now) (c.iter.ensures.rest ∙ c.frames.ensures)) (λ x b q k. search rules)
    ∙ sym (find_from-position c.args.page.now c.args.wanted (listed c.args.self.now))
