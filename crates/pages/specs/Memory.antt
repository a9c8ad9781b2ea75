-- Frame memory and store: what a list of write-backs leaves, and when the two are of the right size.
-- Assumes nothing.
use Rattle.std.specs.Prelude.{Bool, ◌&&◌, List, [], ◌∷◌, ℕ, ◌*◌, ◌<◌, eqb, get_or}
use Rattle.order.specs.Places.{places}
use Rattle.pages.specs.Pages.{page_of, with_page, InPages}

-- the store once the frames of a list are written to their pages, from the last of the list to the first
unfoldable pub written_back : ℕ → List ℕ → List ℕ → List ℕ → List ℕ → List ℕ
written_back P page frames [] store = store
written_back P page frames (f ∷ fs) store = with_page P (get_or page f 0) (page_of P f frames) (written_back P page frames fs store)

-- frame f lies within m bytes of frame memory, and its page within n bytes of store
pub record FrameIn (P : ℕ) (page : List ℕ) (m n f : ℕ) : Type 0 where
  pub small : f < places
  pub frame : InPages P f m
  pub stored : InPages P (get_or page f 0) n

-- m bytes of frame memory and n bytes of store are b frames and N pages of P bytes
unfoldable pub sizes_match : ℕ → ℕ → ℕ → ℕ → ℕ → Bool
sizes_match P b N m n = eqb m (b * P) && eqb n (N * P)
