-- Frames as records, for tactics.
use Rattle.std.proofs.Common.{◌≡◌, ℕ, List, Result, is_ok, Some, sym, subst, arith}
use Rattle.gd_vault.specs.declared.vaults.Mode.{Mode}
use Rattle.gd_vault.specs.Events.{Call}
use Rattle.gd_vault.specs.Events.Call.{Write, Truncate, Clone_into, Set_mode, Sync, Sync_names}
use Rattle.gd_vault.specs.Effects.{file_of}
use Rattle.gd_vault.specs.History.{Renames}
use Rattle.gd_vault.specs.Views.{View, Asked, OnlyAsks}
use Rattle.gd_vault.specs.Changes.{Wrote, Changed, Cloned}
use Rattle.gd_vault.specs.Frame.{Frame, Within, OneFile, NoName}
use Rattle.gd_vault.specs.FrameLaws.{frame_refl, frame_trans, frame_call}

pub within_refl : {mine : ℕ → Type 0} {named : List ℕ → Type 0} (v : View) → Within mine named v v
within_refl {mine = mine} {named = named} v = record { told = frame_refl mine named v.told; faults = omega arith }

pub within_trans : {mine : ℕ → Type 0} {named : List ℕ → Type 0} {u v w : View} → Within mine named u v → Within mine named v w → Within mine named u w
within_trans {mine = mine} {named = named} {u = u} {v = v} {w = w} a b = record { told = frame_trans mine named u.told v.told w.told a.told b.told; faults = omega (arith, a.faults, b.faults) }

-- a call lies in each frame that has its file and its names
pub within_changed : {T E : Type 0} {call : Call} {result : Result T E} {u v : View} (mine : ℕ → Type 0) (named : List ℕ → Type 0) → ((f : ℕ) → file_of call ≡ Some f → mine f) → ((n : List ℕ) → Renames call n → named n) → Changed call result u v → Within mine named u v
within_changed {call = call} {result = result} {u = u} {v = v} mine named file name h = record { told = frame_call mine named call (is_ok result) u.told v.told file name h.told; faults = h.cause.later }

pub within_call_wrote : {T E : Type 0} {call : Call} {size : ℕ} {result : Result T E} {u v : View} (mine : ℕ → Type 0) (named : List ℕ → Type 0) → ((f : ℕ) → file_of call ≡ Some f → mine f) → ((n : List ℕ) → Renames call n → named n) → Wrote call size result u v → Within mine named u v
within_call_wrote {call = call} {result = result} {u = u} {v = v} mine named file name h = record { told = frame_call mine named call (is_ok result) u.told v.told file name h.told; faults = h.cause.later }

pub within_call_cloned : {T E : Type 0} {call : Call} {result : Result T E} {u v : View} (mine : ℕ → Type 0) (named : List ℕ → Type 0) → ((f : ℕ) → file_of call ≡ Some f → mine f) → ((n : List ℕ) → Renames call n → named n) → Cloned call result u v → Within mine named u v
within_call_cloned {call = call} {result = result} {u = u} {v = v} mine named file name h = record { told = frame_call mine named call (is_ok result) u.told v.told file name h.told; faults = h.cause.later }

-- calls on one file
own : (f k : ℕ) → Some f ≡ Some k → OneFile f k
own f k e = let same : f ≡ k = cc in sym same

pub within_wrote : {T E : Type 0} {f at size : ℕ} {bytes : List ℕ} {result : Result T E} {u v : View} → Wrote (Write f at bytes) size result u v → Within (OneFile f) NoName u v
within_wrote {f = f} h = within_call_wrote (OneFile f) NoName (λ k e. own f k e) (λ n h. h) h

pub within_sync : {T E : Type 0} {f : ℕ} {result : Result T E} {u v : View} → Changed (Sync f) result u v → Within (OneFile f) NoName u v
within_sync {f = f} h = within_changed (OneFile f) NoName (λ k e. own f k e) (λ n h. h) h

pub within_truncate : {T E : Type 0} {f : ℕ} {result : Result T E} {u v : View} → Changed (Truncate f) result u v → Within (OneFile f) NoName u v
within_truncate {f = f} h = within_changed (OneFile f) NoName (λ k e. own f k e) (λ n h. h) h

pub within_set_mode : {T E : Type 0} {f : ℕ} {mode : Mode} {result : Result T E} {u v : View} → Changed (Set_mode f mode) result u v → Within (OneFile f) NoName u v
within_set_mode {f = f} h = within_changed (OneFile f) NoName (λ k e. own f k e) (λ n h. h) h

pub within_cloned : {T E : Type 0} {f src stamp : ℕ} {result : Result T E} {u v : View} → Cloned (Clone_into f src stamp) result u v → Within (OneFile f) NoName u v
within_cloned {f = f} h = within_call_cloned (OneFile f) NoName (λ k e. own f k e) (λ n h. h) h

pub within_sync_names : {T E : Type 0} {mine : ℕ → Type 0} {named : List ℕ → Type 0} {result : Result T E} {u v : View} → Changed Sync_names result u v → Within mine named u v
within_sync_names {mine = mine} {named = named} h = within_changed mine named (λ k e. cc) (λ n h. absurd h) h

pub within_asked : {T E : Type 0} {mine : ℕ → Type 0} {named : List ℕ → Type 0} {result : Result T E} {u v : View} → Asked result u v → Within mine named u v
within_asked {mine = mine} {named = named} {u = u} {v = v} h = record {
  told = subst (λ t. Frame mine named u.told t) (sym h.told) (frame_refl mine named u.told);
  faults = h.cause.later;
}

pub within_only_asks : {mine : ℕ → Type 0} {named : List ℕ → Type 0} {u v : View} → OnlyAsks u v → Within mine named u v
within_only_asks {mine = mine} {named = named} {u = u} {v = v} h = record {
  told = subst (λ t. Frame mine named u.told t) (sym h.told) (frame_refl mine named u.told);
  faults = h.later;
}

pub ruleset within = (within_trans, within_wrote, within_sync, within_truncate, within_set_mode, within_cloned, within_sync_names, within_asked, within_only_asks, within_refl)
