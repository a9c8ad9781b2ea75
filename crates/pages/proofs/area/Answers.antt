-- `pages::area` meets its contract: the largest product fits 64 bits. Assumes nothing.
use Rattle.std.proofs.Common.{rules}
use Rattle.pages.proofs.Memory.{product-fits}
use Rattle.pages.proofs.area.Goals as goal

pub overflow_mul-result : goal.overflow_mul-result
overflow_mul-result c = product-fits 65536 65535 (search rules) (search rules) tt
