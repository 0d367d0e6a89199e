-- How a run of gdbm_dump ends: what it prints, what it says, and why.
use Rattle.std.specs.Prelude.{◌≡◌, ◌⊎◌, ◌≤◌, ◌+◌, ◌∷◌, ◌++◌, ℕ, Bool, true, List, [], Option, Some, None, is_none, codes, if◌then◌else◌, option_and_then, option_map}
use Rattle.gd_base.specs.declared.errors.DbError.{DbError}
use Rattle.gd_base.specs.declared.errors.DbError.TheVariants.{Absent, VaultFault}
use Rattle.gd_base.specs.Causes.{Rose}
use Rattle.gd_base.specs.Errors.{error_text}
use Rattle.gd_base.specs.Streams.{WritesFront, and_then}
use Rattle.gd_vault.specs.Content.{File, Content}
use Rattle.gd_vault.specs.Views.{Told, View, IsAt, content_of}
use Rattle.gd_format.specs.File.{file_fault}
use Rattle.gd_readable.specs.Asks.{Counts, is_of_bucket, is_of_readable}
use Rattle.gd_words.specs.declared.dump.DumpWords.{DumpWords}
use Rattle.gd_words.specs.declared.dump.Form.{Form}
use Rattle.gd_dumping.specs.Forms.{dump_of}
use Rattle.gd_dumping.specs.Words.{Text, reading}
use Rattle.gd_dumping.specs.declared.ending.Ending.{Ending}
use Rattle.gd_dumping.specs.declared.ending.Ending.TheVariants.{Dumped, Misused, Refused, Broken, OutputFailed, Starved}

-- ---- what is owed

-- the bytes of the file for which a name stands
abbrev pub bytes_of : Content → Text → Option (List ℕ)
bytes_of c name = option_and_then (λ id. option_map (λ x. x.bytes) (c.files id)) (c.names name)

-- why a file is not dumped: it is absent, or else its first refusal
abbrev pub fault_of : Option (List ℕ) → Option DbError
fault_of None = Some Absent
fault_of (Some file) = file_fault file

-- the text of the dump, or nothing where there is none
abbrev pub text_of : Form → Text → Option (List ℕ) → Text
text_of form name None = []
text_of form name (Some file) = if is_none (file_fault file) then dump_of form name file else []

-- ---- what is said on standard error, and the status

abbrev pub line_of : Ending → Text
line_of Dumped = []
line_of Misused = codes "gdbm_dump: usage error\n"
line_of (Refused e) = codes "gdbm_dump: " ++ (error_text e ++ 10 ∷ [])
line_of (Broken e) = codes "gdbm_dump: " ++ (error_text e ++ 10 ∷ [])
line_of OutputFailed = codes "gdbm_dump: output fault\n"
line_of Starved = codes "gdbm_dump: out of memory\n"

abbrev pub status_of : Ending → ℕ
status_of Dumped = 0
status_of Misused = 3
status_of (Refused e) = 1
status_of (Broken e) = 1
status_of OutputFailed = 1
status_of Starved = 4

-- the status where the line could not be written
abbrev pub status_untold : Ending → ℕ
status_untold Misused = 3
status_untold e = 1

-- a line was written and the status is that of the ending, or standard error failed once in it
abbrev pub Says : Ending → (status : ℕ) (before now : ℕ) (err0 err1 : Option Text) → Type 0
Says e status before now err0 err1 =
    ((status ≡ status_of e) × (now ≡ before) × (err1 ≡ and_then err0 (line_of e)))
    ⊎ ((status ≡ status_untold e) × Rose before now × (now ≤ before + 1) × WritesFront err0 err1 (line_of e))

-- the whole dump was printed, or no memory was found
abbrev pub IsQuiet : (status : ℕ) → Type 0
IsQuiet status = (status ≡ 0) ⊎ (status ≡ 4)

-- ---- how the counts of faults go on, whatever is told: a fault of the vault raises that of the vault alone, one of the
-- output that of the output alone, by one, and no other ending raises a count

abbrev pub Counted : Ending → (vault_before vault_now out_before out_now : ℕ) → Type 0
Counted (Refused e) vault_before vault_now out_before out_now = Counts e vault_before vault_now × (out_now ≡ out_before)
Counted (Broken e) vault_before vault_now out_before out_now = Counts e vault_before vault_now × (out_now ≡ out_before)
Counted OutputFailed vault_before vault_now out_before out_now = (vault_now ≡ vault_before) × Rose out_before out_now × (out_now ≤ out_before + 1)
Counted e vault_before vault_now out_before out_now = (vault_now ≡ vault_before) × (out_now ≡ out_before)

-- ---- what is printed: the whole text, a front of it where the dump was begun, or nothing

abbrev pub Prints : Ending → Form → Text → View → (out0 out1 : Option Text) → Type 0
Prints Dumped form name v out0 out1 = IsAt v (λ c. out1 ≡ and_then out0 (text_of form name (bytes_of c name)))
Prints Misused form name v out0 out1 = out1 ≡ out0
Prints (Refused e) form name v out0 out1 = out1 ≡ out0
Prints e form name v out0 out1 = IsAt v (λ c. WritesFront out0 out1 (text_of form name (bytes_of c name)))

-- ---- why: exactly where the content is told; a fault needs no other cause than its count, and want of memory none

-- a fault of the vault, or what else an error says
abbrev pub FaultOr : DbError → (other : Type 0) → Type 0
FaultOr VaultFault other = Unit {0}
FaultOr e other = other

-- may a file be refused by an error?
abbrev pub is_refusal : DbError → Bool
is_refusal Absent = true
is_refusal e = is_of_readable e

-- the refusal of the file, or a fault of the vault
abbrev pub RefusedFor : DbError → Text → View → Type 0
RefusedFor e name v = FaultOr e ((is_refusal e ≡ true) × IsAt v (λ c. fault_of (bytes_of c name) ≡ Some e))

abbrev pub IsReadable : Text → View → Type 0
IsReadable name v = IsAt v (λ c. fault_of (bytes_of c name) ≡ None)

-- why a dump that was begun was not ended: a fault of the vault, or one that doesn't tell its content, a fault of the output, or want of memory
abbrev pub Breaks : Ending → Told → Type 0
Breaks (Broken e) told = FaultOr e ((is_of_bucket e ≡ true) × (content_of told ≡ None))
Breaks OutputFailed told = Unit {0}
Breaks Starved told = Unit {0}
Breaks e told = ⊥

abbrev pub ComesFor : Ending → Text → View → Type 0
ComesFor Dumped name v = IsReadable name v
ComesFor Misused name v = ⊥
ComesFor (Refused e) name v = RefusedFor e name v
ComesFor (Broken e) name v = IsReadable name v × Breaks (Broken e) v.told
ComesFor OutputFailed name v = IsReadable name v
ComesFor Starved name v = Unit {0}

-- the dump of the file with a name
pub record EndsFor (e : Ending) (form : Form) (name : Text) (v : View) (out0 out1 : Option Text) : Type 0 where
  pub comes : ComesFor e name v
  pub prints : Prints e form name v out0 out1

-- nothing is printed where the words are refused; want of memory may come before they are read
abbrev pub EndsUnread : Ending → (out0 out1 : Option Text) → Type 0
EndsUnread Misused out0 out1 = out1 ≡ out0
EndsUnread Starved out0 out1 = out1 ≡ out0
EndsUnread e out0 out1 = ⊥

-- the words are refused, or they ask for a form and a file
abbrev pub Ends : Ending → Option DumpWords → View → (out0 out1 : Option Text) → Type 0
Ends e None v out0 out1 = EndsUnread e out0 out1
Ends e (Some w) v out0 out1 = EndsFor e w.form w.db v out0 out1

-- ---- the parts of a dump

-- where the content is told, P holds of the bytes of a file
abbrev pub AtFile : View → ℕ → (List ℕ → Type 0) → Type 0
AtFile v f P = IsAt v (λ c. (x : File) → c.files f ≡ Some x → P x.bytes)

-- the refusal of a file that is there, or a fault of the vault
abbrev pub RefusedAt : DbError → View → ℕ → Type 0
RefusedAt e v f = FaultOr e ((is_of_readable e ≡ true) × AtFile v f (λ file. file_fault file ≡ Some e))

-- the dump of a file that is there
abbrev pub EndsAt : Ending → Form → Text → View → ℕ → (out0 out1 : Option Text) → Type 0
EndsAt Dumped form name v f out0 out1 = AtFile v f (λ file. (file_fault file ≡ None) × (out1 ≡ and_then out0 (dump_of form name file)))
EndsAt Misused form name v f out0 out1 = ⊥
EndsAt (Refused e) form name v f out0 out1 = RefusedAt e v f × (out1 ≡ out0)
EndsAt Starved form name v f out0 out1 = AtFile v f (λ file. WritesFront out0 out1 (text_of form name (Some file)))
EndsAt e form name v f out0 out1 = AtFile v f (λ file. (file_fault file ≡ None) × WritesFront out0 out1 (dump_of form name file)) × Breaks e v.told

-- ---- the run

-- there is one way in which the run ended: why it came, and what was printed and said
pub record DumpEnds (words : List Text) (status : ℕ) (u v : View) (out_before out_now : ℕ) (out0 out1 : Option Text) (err_before err_now : ℕ) (err0 err1 : Option Text) : Type 0 where
  pub ending : Ending
  pub ends : Ends ending (reading words) u out0 out1
  pub counted : Counted ending u.faults v.faults out_before out_now
  pub says : Says ending status err_before err_now err0 err1
