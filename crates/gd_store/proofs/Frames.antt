-- Facts of frames.
use Rattle.std.proofs.Common.{◌≡◌, ◌⊎◌, inl, inr, ⊎_elim, ℕ, Bool, true, false, List, [], ◌∷◌, ◌++◌, Option, Some, None, Result, Ok, Err, refl, sym, ap, subst, ◌∙◌, append_assoc, arith}
use Rattle.std.specs.Prelude.{option_map, is_ok, IsErrOf}
use Rattle.gd_vault.specs.declared.vaults.Mode.{Mode}
use Rattle.gd_vault.specs.declared.vaults.Mode.TheVariants.{Both}
use Rattle.gd_vault.specs.declared.vaults.FileId.{FileId}
use Rattle.gd_vault.specs.declared.vaults.CreateError.{CreateError}
use Rattle.gd_vault.specs.declared.vaults.CreateError.TheVariants.{Exists, Failed}
use Rattle.gd_vault.specs.Content.{File, Content}
use Rattle.gd_vault.specs.Events.{Event, content_after}
use Rattle.gd_vault.specs.Events.Call.{Create, Truncate}
use Rattle.gd_vault.specs.Effects.{Does, MayDo, Same}
use Rattle.gd_vault.specs.Frame.{Touches, Along, Reads, Frame, Within, OneFile, NoName}
use Rattle.gd_vault.specs.FrameLaws.{along_has}
use Rattle.gd_vault.specs.Stay.{Has}
use Rattle.gd_vault.specs.Views.{View, Told, HasFile, Asked, content_of}
use Rattle.gd_vault.specs.Views.Told.{Nothing, Tells, Records}
use Rattle.gd_vault.specs.Changes.{Changed, Creates, ExistsWhere, TellsAfter}
use Rattle.gd_vault.proofs.Within.{within_trans, within_changed, within_asked, within_truncate}
use Rattle.gd_vault.proofs.Content.{content_step}
use Rattle.gd_vault.proofs.FrameLeft.{along_reads_file, frame_reads}
use Rattle.gd_open.proofs.Files.{still_there}
use Rattle.gd_update.proofs.Files.{told_first}
use Rattle.gd_store.specs.Opened.{Opened, Fits, IsOwn, NamesOwn, StandsFor, StandsOrBegins}

-- a frame goes on over calls on a file that is its own, or that was not there at its start
gone_before : (c d : Content) (g : ℕ) → (Has c g → Has d g) → (o : Option File) → c.files g ≡ o → d.files g ≡ None → c.files g ≡ None
gone_before c d g stay None is gone = is
gone_before c d g stay (Some x) is gone = absurd (let y = stay (x, is) in let wrong : Some y.0 ≡ None = sym y.1 ∙ gone in cc)

module _ (mine : ℕ → Type 0) (named : List ℕ → Type 0) (f : ℕ) where
  abbrev IsMineAt : Content → Type 0
  IsMineAt c = mine f ⊎ (c.files f ≡ None)

  not_own : (c : Content) (g : ℕ) (x : File) → IsMineAt c → (mine g → ⊥) → c.files g ≡ Some x → g ≡ f → ⊥
  not_own c g x own other there same =
      ⊎_elim (λ (m : mine f). other (subst mine (sym same) m)) (λ (gone : c.files f ≡ None). (let wrong : Some x ≡ None = sym there ∙ ap c.files same ∙ gone in cc)) own

  reads_own : (c d e : Content) → IsMineAt c → Reads mine named c d → Reads (OneFile f) NoName d e → Reads mine named c e
  reads_own c d e own one two = record {
    files = λ g x other there. two.files g x (not_own c g x own other there) (one.files g x other there);
    names = λ n other. two.names n (λ h. h) ∙ one.names n other;
    stay = λ g x there. let y = one.stay g x there in two.stay g y.0 y.1;
  }

  own_file : (c : Content) (g : ℕ) → IsMineAt c → OneFile f g → mine g ⊎ (c.files g ≡ None)
  own_file c g own same = ⊎_elim (λ (m : mine f). inl (subst mine (sym same) m)) (λ (gone : c.files f ≡ None). inr (ap c.files same ∙ gone)) own

  along_own : (first : Content) (es one two : List Event) → IsMineAt (content_after first es) → Along mine named first es one → Along (OneFile f) NoName first (one ++ es) two → Along mine named first es (two ++ one)
  along_own first es one [] own a b = a
  along_own first es one (e ∷ two) own a b =
      let same : two ++ (one ++ es) ≡ (two ++ one) ++ es = sym (append_assoc two one es) in
      let back : (g : ℕ) → (content_after first (one ++ es)).files g ≡ None → (content_after first es).files g ≡ None = λ g gone. gone_before (content_after first es) (content_after first (one ++ es)) g (along_has mine named first es one a g) ((content_after first es).files g) refl gone in
      let touches : Touches mine named (content_after first es) (content_after first (two ++ (one ++ es))) e = record {
        by_call = b.1.by_call;
        file = λ g is. ⊎_elim (λ (m : OneFile f g). own_file (content_after first es) g own m) (λ (gone : (content_after first (one ++ es)).files g ≡ None). inr (back g gone)) (b.1.file g is);
        name = λ n r. absurd (b.1.name n r);
      } in
      (along_own first es one two own a b.0, subst (λ l. Touches mine named (content_after first es) (content_after first l) e) same touches)

  frame_own : (t u v : Told) → ((c : Content) → content_of t ≡ Some c → IsMineAt c) → Frame mine named t u → Frame (OneFile f) NoName u v → Frame mine named t v
  frame_own Nothing u v own one two = subst (λ k. Frame (OneFile f) NoName k v) one two
  frame_own (Tells c) u v own one two =
      let next = subst (λ k. Frame (OneFile f) NoName k v) one.1 two in
      (next.0, next.1, reads_own c one.0 next.0 (own c refl) one.2 next.2)
  frame_own (Records first es) u v own one two =
      let next = subst (λ k. Frame (OneFile f) NoName k v) one.1 two in
      (next.0 ++ one.0, next.1 ∙ ap (λ l. Records first l) (sym (append_assoc next.0 one.0 es)), along_own first es one.0 next.0 (own (content_after first es) refl) one.2 next.2)

  pub within_own : (u v w : View) → ((c : Content) → content_of u.told ≡ Some c → IsMineAt c) → Within mine named u v → Within (OneFile f) NoName v w → Within mine named u w
  within_own u v w own one two = record { told = frame_own u.told v.told w.told own one.told two.told; faults = omega (arith, one.faults, two.faults) }

-- ---- a file that is emptied or made by its name

own_mine : (u : View) (name : List ℕ) (f : ℕ) → IsOwn u name f → (c : Content) → content_of u.told ≡ Some c → StandsFor u name f ⊎ (c.files f ≡ None)
own_mine u name f own c told =
    ⊎_elim
    (λ (here : c.names name ≡ Some f). inl (λ d again. (let whole : Some c ≡ Some d = sym told ∙ again in let same : c ≡ d = cc in ap (λ (k : Content). k.names name) (sym same) ∙ here)))
    (λ (begun : (c.names name ≡ None) × (c.files f ≡ None)). inr begun.1)
    (own c told)

-- the calls on a file that is the name's lie in the name's frame
pub within_named : (u v w : View) (name : List ℕ) (f : ℕ) → IsOwn u name f → Within (StandsFor u name) (λ n. n ≡ name) u v → Within (OneFile f) NoName v w → Within (StandsFor u name) (λ n. n ≡ name) u w
within_named u v w name f own one two = within_own (StandsFor u name) (λ n. n ≡ name) f u v w (own_mine u name f own) one two

pub within_truncated : {T E U F : Type 0} (asked : Result T E) (result : Result U F) (u v w : View) (name : List ℕ) (f : ℕ) → StandsFor u name f → Asked asked u v → Changed (Truncate f) result v w → Within (StandsFor u name) (λ n. n ≡ name) u w
within_truncated asked result u v w name f at a t =
    within_trans (within_asked a) (within_changed (StandsFor u name) (λ n. n ≡ name) (λ k e. (let same : f ≡ k = cc in subst (StandsFor u name) same at)) (λ n h. absurd h) t)

pub within_made : {T E U F : Type 0} (asked : Result T E) (result : Result U F) (u v w : View) (name : List ℕ) (mode : Mode) → Asked asked u v → Changed (Create name mode) result v w → Within (StandsFor u name) (λ n. n ≡ name) u w
within_made asked result u v w name mode a t = within_trans (within_asked a) (within_changed (StandsFor u name) (λ n. n ≡ name) (λ k e. absurd cc) (λ n h. h) t)

-- nothing is told where each content that is told is none
pub none_told : (o : Option Content) → ((c : Content) → o ≡ Some c → ⊥) → o ≡ None
none_told None never = refl
none_told (Some c) never = absurd (never c refl)

pub truncated : {T E U F : Type 0} (asked : Result T E) (result : Result U F) (u v w : View) (name : List ℕ) (o : Option FileId) (f : FileId) → o ≡ Some f → ((c : Content) → content_of u.told ≡ Some c → c.names name ≡ option_map (λ (x : FileId). x.0) o) → Asked asked u v → Changed (Truncate f.0) result v w → Within (StandsFor u name) (λ n. n ≡ name) u w
truncated asked result u v w name o f is at a t = within_truncated asked result u v w name f.0 (λ c told. at c told ∙ ap (option_map (λ (x : FileId). x.0)) is) a t

pub exists_untold : {T E : Type 0} (asked : Result T E) (result : Result FileId CreateError) (u v : View) (name : List ℕ) (o : Option FileId) → Asked asked u v → o ≡ None → ((c : Content) → content_of u.told ≡ Some c → c.names name ≡ option_map (λ (x : FileId). x.0) o) → IsErrOf result Exists → ExistsWhere name result v → content_of u.told ≡ None
exists_untold asked result u v name o a none at is exists = none_told (content_of u.told) (λ c told. (exists c (ap content_of a.told ∙ told)).0 is (at c told ∙ ap (option_map (λ (x : FileId). x.0)) none))

pub create_failed : (e : CreateError) (name : List ℕ) (mode : Mode) (u v : View) → e ≡ Failed → Creates name mode (Err e) u v → Changed {T = FileId} {E = CreateError} (Create name mode) (Err Failed) u v
create_failed e name mode u v is h = subst (λ (k : CreateError). Creates name mode (Err k) u v) is h

-- ---- what a name stands for over a frame

frame_names : (mine : ℕ → Type 0) (named : List ℕ → Type 0) (old new : Told) (c d : Content) (n : List ℕ) → Frame mine named old new → (named n → ⊥) → content_of old ≡ Some c → content_of new ≡ Some d → d.names n ≡ c.names n
frame_names mine named Nothing new c d n h other before after = absurd cc
frame_names mine named (Tells a) new c d n h other before after =
    let first : a ≡ c = cc in
    let whole : Some h.0 ≡ Some d = ap content_of (sym h.1) ∙ after in
    let last : h.0 ≡ d = cc in
    ap (λ (k : Content). k.names n) (sym last) ∙ h.2.names n other ∙ ap (λ (k : Content). k.names n) first
frame_names mine named (Records first es) new c d n h other before after =
    let reads = frame_reads mine named first es (h.0 ++ es) (h.0, refl, h.2) in
    let start : content_after first es ≡ c = cc in
    let whole : Some (content_after first (h.0 ++ es)) ≡ Some d = ap content_of (sym h.1) ∙ after in
    let last : content_after first (h.0 ++ es) ≡ d = cc in
    ap (λ (k : Content). k.names n) (sym last) ∙ reads.names n other ∙ ap (λ (k : Content). k.names n) start

pub stands_still : {mine : ℕ → Type 0} (u v : View) (name : List ℕ) (f : ℕ) → Within mine NoName u v → StandsFor u name f → StandsFor v name f
stands_still {mine = mine} u v name f w at d told =
    let before = told_first u v d w told in
    frame_names mine NoName u.told v.told before.0 d name w.told (λ h. h) before.1 told ∙ at before.0 before.1

-- ---- the own file, and what the name stands for

-- of an old file that is emptied
pub old_is_own : (u : View) (name : List ℕ) (o : Option FileId) (f : FileId) → o ≡ Some f → ((c : Content) → content_of u.told ≡ Some c → c.names name ≡ option_map (λ (x : FileId). x.0) o) → IsOwn u name f.0
old_is_own u name o f is at c told = inl (at c told ∙ ap (option_map (λ (x : FileId). x.0)) is)

-- of a new file
pub new_is_own : {T E : Type 0} (asked : Result T E) (u v w : View) (name : List ℕ) (o : Option FileId) (f : FileId) → o ≡ None → ((c : Content) → content_of u.told ≡ Some c → c.names name ≡ option_map (λ (x : FileId). x.0) o)
    → Asked asked u v → Creates name Both (Ok f) v w → IsOwn u name f.0
new_is_own asked u v w name o f none at a made c told =
    let names : c.names name ≡ None = at c told ∙ ap (option_map (λ (x : FileId). x.0)) none in
    let now : content_of v.told ≡ Some c = ap content_of a.told ∙ told in
    let step = content_step (Create name Both) true v.told w.told made.0.told c now in
    let whole : Some step.2.0 ≡ Some f.0 = sym step.2.2.here ∙ made.1 step.0 step.1 in
    let same : step.2.0 ≡ f.0 = cc in
    inr (names, ap c.files (sym same) ∙ step.2.1.new)

-- calls on the name's file leave what it stands for
pub names_own_old : {T E U F : Type 0} (asked : Result T E) (result : Result U F) (u v w : View) (name : List ℕ) (f : ℕ) → Asked asked u v → Changed (Truncate f) result v w → NamesOwn u w name
names_own_old asked result u v w name f a t c d before after =
    let frame : Within (OneFile f) NoName u w = within_trans (within_asked a) (within_truncate t) in
    inl (frame_names (OneFile f) NoName u.told w.told c d name frame.told (λ h. h) before after)

one_told : (w : View) (c d : Content) → content_of w.told ≡ Some c → content_of w.told ≡ Some d → c ≡ d
one_told w c d one two = let whole : Some c ≡ Some d = sym one ∙ two in cc

names_own_made : (name : List ℕ) (c d : Content) → c.names name ≡ None → Does (Create name Both) c d → StandsOrBegins name c d
names_own_made name c d none does = inr (none, (does.0, does.2.here, does.1.new))

-- a name for which a file was made, or might have been
pub names_own_new : {T E : Type 0} (asked : Result T E) (u v w : View) (name : List ℕ) (o : Option FileId) (f : FileId) → o ≡ None → ((c : Content) → content_of u.told ≡ Some c → c.names name ≡ option_map (λ (x : FileId). x.0) o)
    → Asked asked u v → Creates name Both (Ok f) v w → NamesOwn u w name
names_own_new asked u v w name o f none at a made c d before after =
    let names : c.names name ≡ None = at c before ∙ ap (option_map (λ (x : FileId). x.0)) none in
    let step = content_step (Create name Both) true v.told w.told made.0.told c (ap content_of a.told ∙ before) in
    subst (StandsOrBegins name c) (one_told w step.0 d step.1 after) (names_own_made name c step.0 names step.2)

pub names_own_failed : {T E U F : Type 0} (asked : Result T E) (result : Result U F) (u v w : View) (name : List ℕ) (o : Option FileId) → o ≡ None → ((c : Content) → content_of u.told ≡ Some c → c.names name ≡ option_map (λ (x : FileId). x.0) o)
    → Asked asked u v → is_ok result ≡ false → Changed (Create name Both) result v w → NamesOwn u w name
names_own_failed asked result u v w name o none at a fails made c d before after =
    let names : c.names name ≡ None = at c before ∙ ap (option_map (λ (x : FileId). x.0)) none in
    let told = subst (λ (b : Bool). TellsAfter (Create name Both) b v.told w.told) fails made.told in
    let step = content_step (Create name Both) false v.told w.told told c (ap content_of a.told ∙ before) in
    let may : MayDo (Create name Both) c step.0 = step.2 in
    subst (StandsOrBegins name c) (one_told w step.0 d step.1 after) (⊎_elim (λ (h : Same c step.0). inl (h.names name)) (λ (h : Does (Create name Both) c step.0). names_own_made name c step.0 names h) may)

pub names_own_asked : {T E : Type 0} (asked : Result T E) (u v : View) (name : List ℕ) → Asked asked u v → NamesOwn u v name
names_own_asked asked u v name a c d before after = inl (ap (λ (k : Content). k.names name) (one_told v d c after (ap content_of a.told ∙ before)))

pub names_own_same : (u v w : View) (name : List ℕ) → NamesOwn u v name → w ≡ v → NamesOwn u w name
names_own_same u v w name own same = subst (λ (k : View). NamesOwn u k name) (sym same) own

pub create_exists : (e : CreateError) (name : List ℕ) (mode : Mode) (u v : View) → e ≡ Exists → Creates name mode (Err e) u v → v ≡ u
create_exists e name mode u v is h = subst (λ (k : CreateError). Creates name mode (Err k) u v) is h

pub names_own_nothing : (u : View) (name : List ℕ) → NamesOwn u u name
names_own_nothing u name c d before after = inl (ap (λ (k : Content). k.names name) (one_told u d c after before))

-- over calls on a file
pub names_own_still : {mine : ℕ → Type 0} (u v w : View) (name : List ℕ) → NamesOwn u v name → Within mine NoName v w → NamesOwn u w name
names_own_still {mine = mine} u v w name own frame c d before after =
    let mid = told_first v w d frame after in
    let same : d.names name ≡ mid.0.names name = frame_names mine NoName v.told w.told mid.0 d name frame.told (λ h. h) mid.1 after in
    ⊎_elim (λ (h : mid.0.names name ≡ c.names name). inl (same ∙ h)) (λ (h : (c.names name ≡ None) × ((f : ℕ) × (mid.0.names name ≡ Some f) × (c.files f ≡ None))). inr (h.0, (h.1.0, same ∙ h.1.1, h.1.2))) (own c mid.0 before mid.1)

-- ---- an open database over calls on other files

abbrev HasFileAt : Told → ℕ → Type 0
HasFileAt t f = (c : Content) → content_of t ≡ Some c → (x : File) × (c.files f ≡ Some x)

-- a file that is left alone read before as it reads now
pub stays_told : (mine : ℕ → Type 0) (named : List ℕ → Type 0) (old new : Told) (f : ℕ) → (mine f → ⊥) → Frame mine named old new → (d : Content) (y : File) → HasFileAt old f → content_of new ≡ Some d → d.files f ≡ Some y → (c : Content) × (content_of old ≡ Some c) × (c.files f ≡ Some y)
stays_told mine named Nothing new f other frame d y has is here = absurd (let wrong : None ≡ Some d = sym (ap content_of frame) ∙ is in cc)
stays_told mine named (Tells b) new f other frame d y has is here =
    let x = has b refl in
    let same : frame.0 ≡ d = (let both : Some frame.0 ≡ Some d = sym (ap content_of frame.1) ∙ is in cc) in
    let there : d.files f ≡ Some x.0 = subst (λ (k : Content). k.files f ≡ Some x.0) same (frame.2.files f x.0 other x.1) in
    let one : x.0 ≡ y = (let both : Some x.0 ≡ Some y = sym there ∙ here in cc) in
    (b, refl, subst (λ (k : File). b.files f ≡ Some k) one x.1)
stays_told mine named (Records first es) new f other frame d y has is here =
    let x = has (content_after first es) refl in
    let same : content_after first (frame.0 ++ es) ≡ d = (let both : Some (content_after first (frame.0 ++ es)) ≡ Some d = sym (ap content_of frame.1) ∙ is in cc) in
    let there : d.files f ≡ Some x.0 = subst (λ (k : Content). k.files f ≡ Some x.0) same (along_reads_file mine named first es frame.0 frame.2 f x.0 other x.1) in
    let one : x.0 ≡ y = (let both : Some x.0 ≡ Some y = sym there ∙ here in cc) in
    (content_after first es, refl, subst (λ (k : File). (content_after first es).files f ≡ Some k) one x.1)

pub fits_still : (mine : ℕ → Type 0) (named : List ℕ → Type 0) (u v : View) (s : Opened) → (mine s.file → ⊥) → Within mine named u v → HasFile u s.file → Fits u s → HasFile v s.file × Fits v s
fits_still mine named u v s other frame has fits =
    (still_there s.file frame has, λ whole d y is here. (let old = stays_told mine named u.told v.told s.file other frame.told d y has is here in fits whole old.0 y old.1 old.2))
