-- The listing and P1 to P9 are what the definitions compute. Assumes nothing.
use mathlib.Core.Path.{◌≡◌, refl}
use Rattle.pages.specs.Pages.{splice, page_of, with_page}
use Rattle.pages.specs.Memory.{written_back}
use Rattle.model.specs.Table.{worked, expected}

pub table : worked ≡ expected
unfolding splice page_of with_page written_back
table = refl
