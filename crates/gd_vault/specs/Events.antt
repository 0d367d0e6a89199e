-- The changing calls of a vault, as its history has them.
use Rattle.std.specs.Prelude.{ℕ, ◌*◌, Bool, List, [], ◌∷◌, length}
use Rattle.gd_vault.specs.declared.vaults.Mode.{Mode}
use Rattle.gd_vault.specs.Content.{Content}

-- a changing call with its arguments
pub data Call : Type 0 where
  Create : (name : List ℕ) (mode : Mode) → Call
  Write : (f at : ℕ) (bytes : List ℕ) → Call
  Truncate : (f : ℕ) → Call
  Clone_into : (f src stamp : ℕ) → Call
  Set_mode : (f : ℕ) (mode : Mode) → Call
  Sync : (f : ℕ) → Call
  Sync_names : Call
  Replace : (from to : List ℕ) → Call
  Remove : (name : List ℕ) → Call
  -- one that failed before it did anything
  Idle : Call

-- a changing call, whether it succeeded, and the content after it
pub record Event : Type 0 where
  pub call : Call
  pub ok : Bool
  pub after : Content

-- the content after the events, of which the newest comes first
abbrev pub content_after : Content → List Event → Content
content_after first [] = first
content_after first (e ∷ es) = e.after

-- a moment before each event, one inside it and one after it, which is the one before the next
abbrev pub moment_after : List Event → ℕ
moment_after es = 2 * length es
