-- The closing behind the pairs of a load.
use Rattle.std.proofs.Common.{◌≡◌, ◌∙◌, ap, sym, subst, refl, ℕ, Bool, true, false, List, [], Option, Some, None, Result, Ok, Err, arith}
use Rattle.std.specs.Prelude.{IfErr, OnOk, is_ok}
use Rattle.gd_base.specs.Causes.{Rose}
use Rattle.gd_base.specs.declared.errors.DbError.{DbError}
use Rattle.gd_base.specs.declared.errors.DbError.TheVariants.{OutOfMemory, VaultFault}
use Rattle.gd_dump_reading.specs.declared.machine.Machine.{Ghosts}
use Rattle.gd_load.specs.Items.{EndsWith, MayCome, ReadOn}
use Rattle.gd_load.specs.declared.incoming.Incoming.{Incoming}
use Rattle.gd_load.specs.declared.incoming.Stop.{Stop}
use Rattle.gd_load.specs.declared.incoming.Stop.TheVariants.{Refused, InputFailed, TooLong, Starved}
use Rattle.gd_loading.specs.Load.{ClosesAs}
use Rattle.gd_loading.specs.Loads.{Bytes, Dumped, Ended, IsTail, LeftAfter, Loads, LoadsOn, OnwardAll, PairRefused, Reached, Stored, UnlessFault, at_end, due_of, is_broken_by}
use Rattle.gd_loading.specs.declared.taking.Ending.{Ending}
use Rattle.gd_loading.specs.declared.taking.Ending.TheVariants.{Dump, Db}
use Rattle.gd_open.specs.Files.{FileBecomes}
use Rattle.gd_readable.specs.Asks.{Refuses}
use Rattle.gd_store.specs.Opened.{OnFile}
use Rattle.gd_store.specs.declared.access.Access.{Access}
use Rattle.gd_store.specs.declared.access.Access.TheVariants.{Writer}
use Rattle.gd_store.specs.declared.access.How.{How}
use Rattle.gd_vault.proofs.OneFile.{same_synced}
use Rattle.gd_vault.proofs.Within.{within_sync, within_trans}
use Rattle.gd_vault.specs.Changes.{Changed, TellsAfter}
use Rattle.gd_vault.specs.Content.{Content, File}
use Rattle.gd_vault.specs.Events.{content_after}
use Rattle.gd_vault.specs.Events.Call.{Sync}
use Rattle.gd_vault.specs.Streams.{OnlyWrites}
use Rattle.gd_vault.specs.Views.Told.{Nothing, Tells, Records}
use Rattle.gd_vault.specs.Views.{Told, View, content_of}

-- nothing that is read changes
abbrev pub SameTold : View → View → Type 0
SameTold m v = content_of v.told ≡ content_of m.told

sync-content : (f : ℕ) (ok : Bool) (k w : Told) → TellsAfter (Sync f) ok k w → content_of w ≡ content_of k
sync-content f ok Nothing w h = ap content_of h
sync-content f ok (Tells c) w h = same_synced f ok (Tells c) w c h refl
sync-content f ok (Records first es) w h = same_synced f ok (Records first es) w (content_after first es) h refl

pub closed-same : (broken : Bool) (f : ℕ) (closing : Result (Unit {0}) DbError) (m v : View) → ClosesAs broken f closing m v → SameTold m v
closed-same false f closing m v h = sync-content f (is_ok closing) m.told v.told h.told
closed-same true f closing m v h = ap (λ (x : View). content_of x.told) h.1

pub closed-writes : (broken : Bool) (f : ℕ) (closing : Result (Unit {0}) DbError) (u m v : View) → ClosesAs broken f closing m v → OnlyWrites f u m → OnlyWrites f u v
closed-writes true f closing u m v h writes = subst (λ (x : View). OnlyWrites f u x) (sym h.1) writes
closed-writes false f closing u m v h writes = record {
  within = within_trans writes.within (within_sync h);
  marks = λ c x told is.
      let d = writes.marks c x told is in
      (d.0, sync-content f (is_ok closing) m.told v.told h.told ∙ d.1, d.2);
}

becomes-closed : (u m v : View) (f : ℕ) (R : Bytes → Bytes → Type 0) → SameTold m v → FileBecomes u m f R → FileBecomes u v f R
becomes-closed u m v f R same h = λ c x told there. let r = h c x told there in record { content = r.content; file = r.file; told = same ∙ r.told; there = r.there; holds = r.holds }

cause-closed : (e : DbError) (m v : View) (f : ℕ) (P : Bytes → Type 0) → SameTold m v → Refuses e (Unit {0}) (OnFile m f P) → Refuses e (Unit {0}) (OnFile v f P)
cause-closed VaultFault m v f P same h = tt
cause-closed OutOfMemory m v f P same h = tt
cause-closed e m v f P same h = λ c x told there. h c x (sym same ∙ told) there

tail-closed : (how : How) (f : ℕ) (m v : View) (ending : Ending) (tail : Dumped) → SameTold m v → IsTail how f m ending tail → IsTail how f v ending tail
tail-closed how f m v (Dump (Refused kind place)) tail same h = h
tail-closed how f m v (Dump InputFailed) tail same h = tt
tail-closed how f m v (Dump TooLong) tail same h = tt
tail-closed how f m v (Dump Starved) tail same h = tt
tail-closed how f m v (Db e) tail same h = record { pair = h.pair; more = h.more; is = h.is; cause = cause-closed e m v f (λ file. due_of how h.pair file ≡ Some e) same h.cause }

unless-closed : (r : Result (Unit {0}) Ending) (A B : Type 0) → (A → B) → UnlessFault r A → UnlessFault r B
unless-closed (Ok x) A B f h = f h
unless-closed (Err (Dump stop)) A B f h = f h
unless-closed (Err (Db VaultFault)) A B f h = tt
unless-closed (Err (Db e)) A B f h = f h

pub loads-closed : (how : How) (f : ℕ) (u m v : View) (d : Dumped) (r : Result (Unit {0}) Ending) → SameTold m v → Loads how f u m d r → Loads how f u v d r
loads-closed how f u m v d (Ok x) same h = record { pairs = h.pairs; tail = h.tail; is = h.is; ends = h.ends; stored = becomes-closed u m v f (Stored how h.pairs) same h.stored }
loads-closed how f u m v d (Err e) same h = record {
  pairs = h.pairs;
  tail = h.tail;
  is = h.is;
  ends = tail-closed how f m v e h.tail same h.ends;
  stored = unless-closed (Err e) (FileBecomes u m f (Stored how h.pairs)) (FileBecomes u v f (Stored how h.pairs)) (becomes-closed u m v f (Stored how h.pairs) same) h.stored;
}

reached-closed : {M : Type 0} {g : Ghosts M} (how : How) (f : ℕ) (u m v : View) (old new : Incoming M g) (bytes : Bytes) → SameTold m v → Reached how f u m old new bytes → Reached how f u v old new bytes
reached-closed how f u m v old new bytes same h = record { read = h.read; stays = h.stays; on = record { pairs = h.on.pairs; is = h.on.is; stored = becomes-closed u m v f (Stored how h.on.pairs) same h.on.stored } }

left-closed : {M : Type 0} {g : Ghosts M} (how : How) (f : ℕ) (u m v : View) (old new : Incoming M g) (bytes : Bytes) (r : Result (Unit {0}) Ending) → SameTold m v → LeftAfter how f u m old new bytes r → LeftAfter how f u v old new bytes r
left-closed how f u m v old new bytes (Ok x) same h = tt
left-closed how f u m v old new bytes (Err (Db e)) same h = tt
left-closed how f u m v old new bytes (Err (Dump (Refused kind place))) same h = tt
left-closed how f u m v old new bytes (Err (Dump Starved)) same h = tt
left-closed how f u m v old new bytes (Err (Dump InputFailed)) same h = reached-closed how f u m v old new bytes same h
left-closed how f u m v old new bytes (Err (Dump TooLong)) same h = reached-closed how f u m v old new bytes same h

pub on-closed : {M : Type 0} {g : Ghosts M} (how : How) (f : ℕ) (u m v : View) (old new : Incoming M g) (r : Result (Unit {0}) Ending) (before now : Option Bytes) → SameTold m v → ReadOn before now (LoadsOn how f u m old new r) → ReadOn before now (LoadsOn how f u v old new r)
on-closed how f u m v old new r before now same h = record {
  bytes = h.bytes;
  front = h.front;
  says = record {
    read = h.says.read;
    stays = h.says.stays;
    loads = λ rest may. loads-closed how f u m v _ r same (h.says.loads rest may);
    left = left-closed how f u m v old new h.bytes r same h.says.left;
  };
}

-- how the store is closed, by whether it is broken
pub closes-as : (b x : Bool) (f g : ℕ) (access : Access) (closing : Result (Unit {0}) DbError) (m v : View) → b ≡ x → g ≡ f → access ≡ Writer
    → (b ≡ false → access ≡ Writer → Changed (Sync g) closing m v) → (b ≡ true → (closing ≡ Ok tt) × (v ≡ m)) → ClosesAs x f closing m v
closes-as b true f g access closing m v is same writer synced broken = broken is
closes-as b false f g access closing m v is same writer synced broken = subst (λ (k : ℕ). Changed (Sync k) closing m v) same (synced is writer)
