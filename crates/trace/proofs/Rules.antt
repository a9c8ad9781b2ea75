-- The laws by which the functions of `trace` meet their contracts; each function names its set. What a function answers says what the definition says, and no
-- two answers say the same, so the two are equal. Assumes nothing.
use Rattle.trace.proofs.Bytes.{number_at-part, number_at-below}
use Rattle.trace.proofs.Trailers.{header-room}
use Rattle.trace.proofs.Records.{first_bad-next, first_bad-done}
use Rattle.trace.proofs.Settled.{checked-one-to-one, next-one-to-one}
use Rattle.trace.proofs.Reading.{bad-low, other-names-none, found-within, place_after-found, place_after-end}

-- the part of the bytes that is read spells the number, and so many bytes spell no larger one
pub ruleset spells = (number_at-part, number_at-below)

-- a turn takes one record more, or answers with its number; at the end none is left
pub ruleset searches = (first_bad-next, first_bad-done)

-- the distance of a trailer that is not refused is 20 + 4 × records and not beyond the bytes, so that all records lie in them
pub ruleset reads = (checked-one-to-one, header-room)

-- where there is a record, its bytes are in the slice, whose length fits, so that the place after it fits
pub ruleset follows = (next-one-to-one, found-within, place_after-found, place_after-end)

-- 8 counts records from 1, so that the place of the one that it names does not go below 0; no other refusal names a record
pub ruleset begins = (checked-one-to-one, bad-low, other-names-none)
