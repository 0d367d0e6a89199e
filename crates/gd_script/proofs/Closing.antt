-- The end of a run.
use Rattle.std.proofs.Common.{◌≡◌, List, ℕ, Option, Result, Ok, Err, is_ok, MatchBool}
use Rattle.gd_base.specs.Causes.{HasCause}
use Rattle.gd_base.specs.Streams.{Puts, WritesFront, and_then}
use Rattle.gd_base.specs.declared.errors.Failed.{Failed}
use Rattle.gd_script.specs.Reading.{FailsOnce}

-- the last lines were said whole, or standard error failed in them
pub says_by : (r : Result (Unit {0}) Failed) (old new : Option (List ℕ)) (before now : ℕ) (text : List ℕ) → Puts old new r text → HasCause before now r
    → MatchBool (is_ok r) ((new ≡ and_then old text) × (now ≡ before)) (WritesFront old new text × FailsOnce before now)
says_by (Ok x) old new before now text p c = (p, c.answered)
says_by (Err e) old new before now text p c = (p, record { rose = c.failed; later = c.later; once = c.once })
