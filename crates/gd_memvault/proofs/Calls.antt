-- What the calls of a vault in memory come to.
use Rattle.std.proofs.Common.{◌≡◌, ◌∙◌, ap, sym, subst, ℕ, ◌+◌, ◌-◌, ◌^◌, ◌≤◌, min, arith, false, true, Result, Ok, Err, is_ok, IsErr}
use Rattle.gd_vault.specs.Events.{Call}
use Rattle.gd_vault.specs.Views.{View}
use Rattle.gd_vault.specs.Changes.{Changed, Raised, Wrote, TellsAfter}
use Rattle.gd_memvault.specs.Log.{DoesNothing}
use Rattle.gd_memvault.specs.Memory.{MemState, memory_told, memory_view, next_number}
use Rattle.gd_memvault.proofs.Logs.{nothing_told}

-- a call for which no memory was found
pub starved_changed : {T E : Type 0} (old one two new : MemState) (e : E) → one ≡ record old { calls = next_number old.calls } → two ≡ record one { log = two.log } → DoesNothing (memory_told one) (memory_told two) → new ≡ record two { faults = min (two.faults + 1) (2 ^ 64 - 1); starved = min (two.starved + 1) (2 ^ 64 - 1) } → two.faults ≤ new.faults
    → (call : Call) → Changed {T = T} {E = E} call (Err e) (memory_view old) (memory_view new)
starved_changed old one two new e first second nothing last later call =
    let told_one : memory_told one ≡ memory_told old = ap memory_told first in
    let told_new : memory_told new ≡ memory_told two = ap memory_told last in
    let faults : two.faults ≡ old.faults = ap (λ (m : MemState). m.faults) second ∙ ap (λ (m : MemState). m.faults) first in
    record {
      told = subst (λ t. TellsAfter call false (memory_told old) t) (sym told_new) (subst (λ t. TellsAfter call false t (memory_told two)) told_one (nothing_told call (memory_told one) (memory_told two) nothing));
      cause = record {
        later = omega (arith, later, faults);
        failed = omega (arith, faults, ap (λ (m : MemState). m.faults) last);
        answered = tt;
        once = omega (arith, faults, ap (λ (m : MemState). m.faults) last);
      };
      bytes_written = ap (λ (m : MemState). m.written) last ∙ ap (λ (m : MemState). m.written) second ∙ ap (λ (m : MemState). m.written) first;
      clones = ap (λ (m : MemState). m.clones) last ∙ ap (λ (m : MemState). m.clones) second ∙ ap (λ (m : MemState). m.clones) first;
      reads = ap (λ (m : MemState). m.reads) last ∙ ap (λ (m : MemState). m.reads) second ∙ ap (λ (m : MemState). m.reads) first;
    }

-- a failed call answers another error
pub other_error : {T E U F : Type 0} {call : Call} {e : E} {f : F} {old new : View} → Changed {T = T} {E = E} call (Err e) old new → Changed {T = U} {E = F} call (Err f) old new
other_error h = record { told = h.told; cause = record { later = h.cause.later; failed = h.cause.failed; answered = tt; once = h.cause.once }; bytes_written = h.bytes_written; clones = h.clones; reads = h.reads }

raised_nothing : {T E : Type 0} (size a : ℕ) (r : Result T E) → IsErr r → Raised (is_ok r) size a a
raised_nothing size a (Ok x) err = absurd (let wrong : false ≡ true = err in cc)
raised_nothing size a (Err e) err = (omega arith, omega arith)

-- a failed write wrote nothing
pub wrote_nothing : {T E : Type 0} {call : Call} {size : ℕ} {result : Result T E} {old new : View} → IsErr result → Changed call result old new → Wrote call size result old new
wrote_nothing {call = call} {size = size} {result = result} {old = old} {new = new} err h = record {
  told = h.told;
  cause = h.cause;
  bytes_written = subst (Raised (is_ok result) size old.bytes_written) (sym h.bytes_written) (raised_nothing size old.bytes_written result err);
  clones = h.clones;
  reads = h.reads;
}
