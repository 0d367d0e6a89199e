-- The writes of a new file.
use Rattle.std.proofs.Common.{◌≡◌, ℕ, ◌+◌, ◌-◌, ◌*◌, true, List, [], ◌++◌, length, take, drop, replicate, Some, Result, Ok, Err, OnOk, refl, sym, ap, subst, ◌∙◌, arith, length-append}
use Rattle.std.proofs.lemmas.List.{append-nil, drop_all, take_all}
use Rattle.gd_vault.specs.Content.{File}
use Rattle.gd_vault.specs.Events.Call.{Write}
use Rattle.gd_vault.specs.Effects.{written}
use Rattle.gd_vault.specs.Views.{View}
use Rattle.gd_vault.specs.Changes.{TellsAfter}
use Rattle.gd_vault.proofs.Content.{content_step}
use Rattle.gd_base.specs.declared.errors.Format.{Format}
use Rattle.gd_create.specs.NewFile.{IsNewBlock, header_bytes, dir_bytes, bucket_bytes, new_file}
use Rattle.gd_create.proofs.News.{length-header}
use Rattle.gd_create.proofs.TwoBlocks.{length-dir}
use Rattle.gd_create.specs.Stands.{Stands, Becomes}

-- a write that succeeds
pub becomes : (old new : View) (f at : ℕ) (bytes : List ℕ) → TellsAfter (Write f at bytes) true old.told new.told → Becomes old new f (λ file. written file at bytes)
becomes old new f at bytes t x s =
    let step = content_step (Write f at bytes) true old.told new.told t s.content s.told in
    let file = step.2.file x s.there in
    record { content = step.0; told = step.1; there = file.1 ∙ ap Some file.2 }

-- bytes at the end of a file
pub written_behind : (file bytes : List ℕ) (at : ℕ) → length file ≡ at → written file at bytes ≡ file ++ bytes
written_behind file bytes at e =
    let none : at - length file ≡ 0 = omega (arith, e) in
    let padded : file ++ replicate (at - length file) 0 ≡ file = ap (λ (n : ℕ). file ++ replicate n 0) none ∙ append-nil file in
    let front : take at (file ++ replicate (at - length file) 0) ≡ file = ap (take at) padded ∙ take_all at file (omega (arith, e)) in
    let behind : drop (at + length bytes) file ≡ [] = drop_all (at + length bytes) file (omega (arith, e)) in
    ap (λ (zs : List ℕ). zs ++ bytes ++ drop (at + length bytes) file) front ∙ ap (λ (zs : List ℕ). file ++ bytes ++ zs) behind ∙ append-nil (file ++ bytes)

-- three of them, into an empty file
pub three_writes : (u v w z : View) (f : ℕ) (a b c : List ℕ) (n m : ℕ) → length a ≡ n → length a + length b ≡ m → Becomes u v f (λ file. written file 0 a) → Becomes v w f (λ file. written file n b) → Becomes w z f (λ file. written file m c)
    → (x : File) → Stands u f x → x.bytes ≡ [] → Stands z f (record x { bytes = a ++ b ++ c })
three_writes u v w z f a b c n m la lb one two three x s empty =
    let e1 : written x.bytes 0 a ≡ a = ap (λ (zs : List ℕ). written zs 0 a) empty ∙ written_behind [] a 0 refl in
    let s1 : Stands v f (record x { bytes = a }) = subst (λ (zs : List ℕ). Stands v f (record x { bytes = zs })) e1 (one x s) in
    let s2 : Stands w f (record x { bytes = a ++ b }) = subst (λ (zs : List ℕ). Stands w f (record x { bytes = zs })) (written_behind a b n la) (two (record x { bytes = a }) s1) in
    subst (λ (zs : List ℕ). Stands z f (record x { bytes = zs })) (written_behind (a ++ b) c m (length-append a b ∙ lb)) (three (record x { bytes = a ++ b }) s2)

pub on_ok_map : {T E : Type 0} {P Q : Type 0} (r : Result T E) → (P → Q) → OnOk r P → OnOk r Q
on_ok_map (Ok v) f h = f h
on_ok_map (Err e) f h = tt

-- the three writes of a new file
pub new_writes : (u v w z : View) (f : ℕ) (format : Format) (block bits : ℕ) (a b c : List ℕ) (n m : ℕ) → IsNewBlock block bits → a ≡ header_bytes format block bits → b ≡ dir_bytes block bits → c ≡ bucket_bytes block → n ≡ block → m ≡ 2 * block
    → Becomes u v f (λ file. written file 0 a) → Becomes v w f (λ file. written file n b) → Becomes w z f (λ file. written file m c)
    → (x : File) → Stands u f x → x.bytes ≡ [] → Stands z f (record x { bytes = new_file format block bits })
unfolding new_file
new_writes u v w z f format block bits a b c n m is ea eb ec en em one two three x s empty =
    let la = ap (λ (zs : List ℕ). length zs) ea ∙ length-header format block bits is in
    let lb = ap (λ (zs : List ℕ). length zs) eb ∙ length-dir block bits is in
    let whole : a ++ b ++ c ≡ header_bytes format block bits ++ dir_bytes block bits ++ bucket_bytes block = rw (ea, eb, ec) refl in
    subst (λ (zs : List ℕ). Stands z f (record x { bytes = zs })) whole (three_writes u v w z f a b c n m (la ∙ sym en) (omega (arith, la, lb, em)) one two three x s empty)
