-- Facts of a database that is made.
use Rattle.std.proofs.Common.{◌≡◌, ℕ, true, List, [], length, ◌≤◌, refl, sym, ap, subst, ◌∙◌, arith}
use Rattle.gd_base.specs.declared.errors.Format.{Format}
use Rattle.gd_base.specs.declared.errors.Format.TheVariants.{Standard, Numsync}
use Rattle.gd_format.specs.declared.Header.{Header}
use Rattle.gd_format.specs.Avail.{Avail}
use Rattle.gd_format.specs.File.{front_of, records}
use Rattle.gd_format.specs.HeaderFault.{header_of, is_native}
use Rattle.gd_format.specs.Headers.{IsHeader}
use Rattle.gd_format.specs.Sound.{most_of}
use Rattle.gd_layout.specs.Fits.{FitsHeader}
use Rattle.gd_vault.specs.Content.{File}
use Rattle.gd_vault.specs.Frame.{Within}
use Rattle.gd_vault.specs.Views.{View, HasFile}
use Rattle.gd_create.specs.NewFile.{IsNewHeader, new_file, new_header}
use Rattle.gd_create.specs.Laws.{IsNew}
use Rattle.gd_create.specs.Stands.{Stands}
use Rattle.gd_create.proofs.News.{is_new}
use Rattle.gd_create.proofs.Powers.{fits, is_header}
use Rattle.gd_update.proofs.Files.{told_first}
use Rattle.gd_update.proofs.Chains.{one_file}
use Rattle.gd_store.specs.declared.access.Access.TheVariants.{Writer}
use Rattle.gd_store.specs.Opened.{OnFile, IsRightFor}

pub new_is_header : (h : Header) → IsNewHeader h → IsHeader h
new_is_header h n = subst IsHeader (sym n.fields) (is_header h.format h.block h.dir_bits n.sizes)

pub new_fits : (h : Header) → IsNewHeader h → FitsHeader h
new_fits h n = subst FitsHeader (sym n.fields) (fits h.format h.block h.dir_bits n.sizes)

native_new : (format : Format) (block bits : ℕ) → is_native (new_header format block bits).magic ≡ true
unfolding new_header is_native
native_new Standard block bits = refl
native_new Numsync block bits = refl

pub new_native : (h : Header) → IsNewHeader h → is_native h.magic ≡ true
new_native h n = subst (λ (k : Header). is_native k.magic ≡ true) (sym n.fields) (native_new h.format h.block h.dir_bits)

new_of : (h : Header) → IsNewHeader h → IsNew (new_file h.format h.block h.dir_bits) h
new_of h n = subst (IsNew (new_file h.format h.block h.dir_bits)) (sym n.fields) (is_new h.format h.block h.dir_bits n.sizes)

-- an empty file that the blocks were written into has these
pub made_bytes : {mine : ℕ → Type 0} {named : List ℕ → Type 0} (v w : View) (f : ℕ) (new : List ℕ) → HasFile v f → OnFile v f (λ file. file ≡ []) → Within mine named v w
    → ((x : File) → Stands v f x → x.bytes ≡ [] → Stands w f (record x { bytes = new })) → OnFile w f (λ file. file ≡ new)
made_bytes v w f new has empty frame made c x told there =
    let before = told_first v w c frame told in
    let y = has before.0 before.1 in
    let st = made y.0 (record { content = before.0; told = before.1; there = y.1 }) (empty before.0 y.0 before.1 y.1) in
    let same : x ≡ record y.0 { bytes = new } = one_file w f c st.content x (record y.0 { bytes = new }) told there st.told st.there in
    ap (λ (z : File). z.bytes) same

pub record MadeFile (h : Header) (table : Avail) (file : List ℕ) : Type 0 where
  pub header : h ≡ header_of (front_of file)
  pub right : IsRightFor Writer h table file
  pub none : records file ≡ []

pub made_file : (h : Header) (table : Avail) (file : List ℕ) → IsNewHeader h → table ≡ record { extents = []; next_block = 0; room = most_of h } → file ≡ new_file h.format h.block h.dir_bits → MadeFile h table file
made_file h table file n t is =
    let new = subst (λ (k : List ℕ). IsNew k h) (sym is) (new_of h n) in
    record { header = sym new.header; right = (new.sound, t ∙ sym (new.table (most_of h))); none = new.records }

pub record Few (t : Avail) (most room : ℕ) : Type 0 where
  pub few : length t.extents ≤ most
  pub room_is : t.room ≡ room

pub empty_table : (t : Avail) (room most : ℕ) → t ≡ record { extents = []; next_block = 0; room = room } → Few t most room
empty_table t room most is = subst (λ (k : Avail). Few k most room) (sym is) (record { few = omega arith; room_is = refl })
