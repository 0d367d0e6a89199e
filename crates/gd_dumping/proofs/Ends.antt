-- How a run ends, from how its parts do.
use Rattle.std.proofs.Common.{◌≡◌, ◌≢◌, ◌∙◌, ◌⊎◌, ⊎_elim, ap, sym, subst, refl, inl, inr, ℕ, ◌+◌, ◌≤◌, List, ◌++◌, Option, Some, None, arith}
use Rattle.std.specs.Prelude.{Result, IfErr}
use Rattle.std.specs.Result.{IsErrAnd}
use Rattle.std.proofs.lemmas.Result.{err_from_is_err_and}
use Rattle.gd_base.specs.Causes.{Rose}
use Rattle.gd_base.specs.Streams.{WritesFront, and_then}
use Rattle.gd_base.proofs.Waits.{Waits, waits-front}
use Rattle.gd_base.proofs.Writes.{put-nothing}
use Rattle.gd_base.specs.declared.errors.DbError.{DbError}
use Rattle.gd_base.specs.declared.errors.DbError.TheVariants.{OutOfMemory}
use Rattle.gd_vault.specs.Content.{File, Content}
use Rattle.gd_vault.specs.Views.{Told, View, IsAt, content_of}
use Rattle.gd_format.specs.File.{file_fault}
use Rattle.gd_readable.specs.Asks.{Counts, IsAnswer, RefusesFile, RefusesWalk, is_of_bucket, is_of_readable}
use Rattle.gd_words.specs.declared.dump.DumpWords.{DumpWords}
use Rattle.gd_words.specs.declared.dump.Form.{Form}
use Rattle.gd_dumping.specs.Forms.{dump_of}
use Rattle.gd_dumping.specs.Words.{Text}
use Rattle.gd_dumping.specs.Dump.{AtFile, Breaks, Counted, Ends, EndsAt, EndsFor, IsQuiet, Says, bytes_of, fault_of, line_of, status_of, status_untold, text_of}
use Rattle.gd_dumping.specs.declared.ending.Ending.{Ending}
use Rattle.gd_dumping.specs.declared.ending.Ending.TheVariants.{Dumped, Misused, Refused, Broken, OutputFailed, Starved}
use Rattle.gd_dumping.proofs.Refusals.{also_refusal, fault_or, fault_or_map}

-- ---- nothing was written

pub no_front : (told : Option (List ℕ)) (bytes : List ℕ) → WritesFront told told bytes
no_front told bytes = (0, omega arith, put-nothing told)

-- what was put so far is a front of the whole
pub waits-stop : (old new : Option (List ℕ)) (p q xs ys : List ℕ) → Waits old p new q xs → WritesFront old new (p ++ (xs ++ ys))
waits-stop old new p q xs ys a = waits-front old new new p q xs ys a (no_front new (q ++ ys))

-- ---- causes

-- the same ending over more of a run
pub breaks_on : (e : Ending) (t u : Told) → t ≡ u → Breaks e t → Breaks e u
breaks_on e t u same h = subst (Breaks e) same h

-- how the error of a walk ends a dump
abbrev pub Stops : DbError → Ending → Type 0
Stops error e = ((e ≡ Starved) × (error ≡ OutOfMemory)) ⊎ ((e ≡ Broken error) × (error ≢ OutOfMemory))

pub walk_breaks : (error : DbError) (e : Ending) (u v : View) → Stops error e → RefusesWalk error u v → IsAnswer is_of_bucket error → Breaks e u.told
walk_breaks error e u v stops h kind =
    ⊎_elim
    (λ (x : (e ≡ Starved) × (error ≡ OutOfMemory)). subst (λ (k : Ending). Breaks k u.told) (sym x.0) tt)
    (λ (x : (e ≡ Broken error) × (error ≢ OutOfMemory)). subst (λ (k : Ending). Breaks k u.told) (sym x.0) (fault_or error _ _ _ h kind x.1))
    stops

pub walk_counts : (error : DbError) (e : Ending) (a b o p : ℕ) → Stops error e → Counts error a b → p ≡ o → Counted e a b o p
walk_counts error e a b o p stops h same =
    ⊎_elim
    (λ (x : (e ≡ Starved) × (error ≡ OutOfMemory)). subst (λ (k : Ending). Counted k a b o p) (sym x.0) (let stays : Counts OutOfMemory a b = rw x.1 at h in (stays, same)))
    (λ (x : (e ≡ Broken error) × (error ≢ OutOfMemory)). subst (λ (k : Ending). Counted k a b o p) (sym x.0) (h, same))
    stops

pub output_counts : (e : Ending) (a b o p : ℕ) → e ≡ OutputFailed → b ≡ a → Rose o p → p ≤ o + 1 → Counted e a b o p
output_counts e a b o p is same rose once = subst (λ (k : Ending). Counted k a b o p) (sym is) (same, rose, once)

pub err_map : {T : Type 0} (Q P : Ending → Type 0) (r : Result T Ending) → IsErrAnd r Q → ((e : Ending) → Q e → P e) → IfErr r P
err_map Q P r err f = let e = err_from_is_err_and {Q = Q} r err in rw e.1 (f e.0 e.2)

-- counts that stood before a part of a run
pub counted_on : (e : Ending) (a b c o p q : ℕ) → Counted e b c p q → b ≡ a → p ≡ o → Counted e a c o q
counted_on e a b c o p q h one two = rw (← one, ← two) h

-- ---- a file that is there

-- how the refusal of a file ends a run
abbrev pub IsRefusal : DbError → Ending → Type 0
IsRefusal error e = ((e ≡ Starved) × (error ≡ OutOfMemory)) ⊎ ((e ≡ Refused error) × (error ≢ OutOfMemory))

pub ends_refused : (error : DbError) (e : Ending) (form : Form) (name : Text) (u v : View) (f : ℕ) (out : Option Text) → IsRefusal error e → RefusesFile error f u v → IsAnswer is_of_readable error → EndsAt e form name u f out out
ends_refused error e form name u v f out is h kind =
    let P : Ending → Type 0 = λ k. EndsAt k form name u f out out in
    ⊎_elim
    (λ (x : (e ≡ Starved) × (error ≡ OutOfMemory)). subst P (sym x.0) (λ c told x is. no_front out (text_of form name (Some x.bytes))))
    (λ (x : (e ≡ Refused error) × (error ≢ OutOfMemory)). subst P (sym x.0)
    (fault_or_map error _ _ (λ both. (both.0, λ c told x is. both.1 c x told is)) (fault_or error _ _ _ h kind x.1), refl))
    is

pub refused_counts : (error : DbError) (e : Ending) (a b o : ℕ) → IsRefusal error e → Counts error a b → Counted e a b o o
refused_counts error e a b o is h =
    ⊎_elim
    (λ (x : (e ≡ Starved) × (error ≡ OutOfMemory)). subst (λ (k : Ending). Counted k a b o o) (sym x.0) (let stays : Counts OutOfMemory a b = rw x.1 at h in (stays, refl)))
    (λ (x : (e ≡ Refused error) × (error ≢ OutOfMemory)). subst (λ (k : Ending). Counted k a b o o) (sym x.0) (h, refl))
    is

text_is : (form : Form) (name file : List ℕ) (b : Option (List ℕ)) → b ≡ Some file → file_fault file ≡ None → dump_of form name file ≡ text_of form name b
text_is form name file b at readable = rw (at, readable) refl

pub ends_broken : (e : Ending) (form : Form) (name : Text) (u : View) (f : ℕ) (out0 out1 : Option Text) → Breaks e u.told → AtFile u f (λ file. file_fault file ≡ None) → AtFile u f (λ file. WritesFront out0 out1 (dump_of form name file)) → EndsAt e form name u f out0 out1
ends_broken Dumped form name u f out0 out1 h readable front = absurd h
ends_broken Misused form name u f out0 out1 h readable front = absurd h
ends_broken (Refused e) form name u f out0 out1 h readable front = absurd h
ends_broken (Broken e) form name u f out0 out1 h readable front = (λ c told x is. (readable c told x is, front c told x is), h)
ends_broken OutputFailed form name u f out0 out1 h readable front = (λ c told x is. (readable c told x is, front c told x is), h)
ends_broken Starved form name u f out0 out1 h readable front =
    λ c told x is. subst (WritesFront out0 out1) (text_is form name x.bytes (Some x.bytes) refl (readable c told x is)) (front c told x is)

-- the same over more of a run
pub ends_on : (e : Ending) (form : Form) (name : Text) (u v : View) (f : ℕ) (out0 out1 : Option Text) → u.told ≡ v.told → EndsAt e form name u f out0 out1 → EndsAt e form name v f out0 out1
ends_on Dumped form name u v f out0 out1 same h = λ c told x is. h c (ap content_of same ∙ told) x is
ends_on Misused form name u v f out0 out1 same h = h
ends_on (Refused e) form name u v f out0 out1 same h = (
  fault_or_map e _ _ (λ x. (x.0, λ c told y is. x.1 c (ap content_of same ∙ told) y is)) h.0,
  h.1,
)
ends_on (Broken e) form name u v f out0 out1 same h = (λ c told x is. h.0 c (ap content_of same ∙ told) x is, breaks_on (Broken e) u.told v.told same h.1)
ends_on OutputFailed form name u v f out0 out1 same h = (λ c told x is. h.0 c (ap content_of same ∙ told) x is, tt)
ends_on Starved form name u v f out0 out1 same h = λ c told x is. h c (ap content_of same ∙ told) x is

-- ---- the file with a name

bytes_named : (c : Content) (name : Text) (f : ℕ) (x : File) → c.names name ≡ Some f → c.files f ≡ Some x → bytes_of c name ≡ Some x.bytes
bytes_named c name f x named is = rw (named, is) refl

module _ (form : Form) (name : Text) (v : View) (f : ℕ) (named : IsAt v (λ c. c.names name ≡ Some f)) (there : (c : Content) → content_of v.told ≡ Some c → (x : File) × (c.files f ≡ Some x)) where
  bytes_at_name : (c : Content) (told : content_of v.told ≡ Some c) → bytes_of c name ≡ Some (there c told).0.bytes
  bytes_at_name c told = bytes_named c name f (there c told).0 (named c told) (there c told).1

  at_name : (P : Option (List ℕ) → Type 0) → AtFile v f (λ file. P (Some file)) → IsAt v (λ c. P (bytes_of c name))
  at_name P h = λ c told. let x = there c told in subst P (sym (bytes_at_name c told)) (h c told x.0 x.1)

  readable_name : (Q : List ℕ → Type 0) → AtFile v f (λ file. (file_fault file ≡ None) × Q file) → IsAt v (λ c. fault_of (bytes_of c name) ≡ None)
  readable_name Q h = at_name (λ b. fault_of b ≡ None) (λ c told x is. (h c told x is).0)

  front_name : (out0 out1 : Option Text) → AtFile v f (λ file. (file_fault file ≡ None) × WritesFront out0 out1 (dump_of form name file)) → IsAt v (λ c. WritesFront out0 out1 (text_of form name (bytes_of c name)))
  front_name out0 out1 h = at_name (λ b. WritesFront out0 out1 (text_of form name b))
      (λ c told x is. let both = h c told x is in subst (WritesFront out0 out1) (text_is form name x.bytes (Some x.bytes) refl both.0) both.1)

  pub ends_named : (e : Ending) (out0 out1 : Option Text) → EndsAt e form name v f out0 out1 → EndsFor e form name v out0 out1
  ends_named Dumped out0 out1 h = record {
    comes = readable_name (λ file. out1 ≡ and_then out0 (dump_of form name file)) h;
    prints = at_name (λ b. out1 ≡ and_then out0 (text_of form name b)) (λ c told x is. let both = h c told x is in both.1 ∙ ap (and_then out0) (text_is form name x.bytes (Some x.bytes) refl both.0));
  }
  ends_named Misused out0 out1 h = absurd h
  ends_named (Refused e) out0 out1 h = record {
    comes = fault_or_map e _ _ (λ x. (also_refusal e x.0, at_name (λ b. fault_of b ≡ Some e) x.1)) h.0;
    prints = h.1;
  }
  ends_named (Broken e) out0 out1 h = record { comes = (readable_name (λ file. WritesFront out0 out1 (dump_of form name file)) h.0, h.1); prints = front_name out0 out1 h.0 }
  ends_named OutputFailed out0 out1 h = record { comes = readable_name (λ file. WritesFront out0 out1 (dump_of form name file)) h.0; prints = front_name out0 out1 h.0 }
  ends_named Starved out0 out1 h = record { comes = tt; prints = at_name (λ b. WritesFront out0 out1 (text_of form name b)) h }

-- ---- where no count rose

loud : (status : ℕ) → status ≡ 1 → IsQuiet status → ⊥
loud status is quiet = ⊎_elim (λ (x : status ≡ 0). omega (arith, is, x)) (λ (x : status ≡ 4). omega (arith, is, x)) quiet

louder : (status : ℕ) → status ≡ 3 → IsQuiet status → ⊥
louder status is quiet = ⊎_elim (λ (x : status ≡ 0). omega (arith, is, x)) (λ (x : status ≡ 4). omega (arith, is, x)) quiet

untold_loud : (e : Ending) (status : ℕ) → status ≡ status_untold e → IsQuiet status → ⊥
untold_loud Dumped status is quiet = loud status is quiet
untold_loud Misused status is quiet = louder status is quiet
untold_loud (Refused e) status is quiet = loud status is quiet
untold_loud (Broken e) status is quiet = loud status is quiet
untold_loud OutputFailed status is quiet = loud status is quiet
untold_loud Starved status is quiet = loud status is quiet

quiet_ending : (e : Ending) (status v0 v1 o0 o1 : ℕ) → status ≡ status_of e → IsQuiet status → Counted e v0 v1 o0 o1 → (v1 ≡ v0) × (o1 ≡ o0)
quiet_ending Dumped status v0 v1 o0 o1 is quiet h = h
quiet_ending Misused status v0 v1 o0 o1 is quiet h = h
quiet_ending (Refused e) status v0 v1 o0 o1 is quiet h = absurd (loud status is quiet)
quiet_ending (Broken e) status v0 v1 o0 o1 is quiet h = absurd (loud status is quiet)
quiet_ending OutputFailed status v0 v1 o0 o1 is quiet h = absurd (loud status is quiet)
quiet_ending Starved status v0 v1 o0 o1 is quiet h = h

pub quiet : (e : Ending) (status v0 v1 o0 o1 n0 n1 : ℕ) (err0 err1 : Option Text) → Counted e v0 v1 o0 o1 → Says e status n0 n1 err0 err1 → IsQuiet status → (v1 ≡ v0) × (o1 ≡ o0) × (n1 ≡ n0)
quiet e status v0 v1 o0 o1 n0 n1 err0 err1 counted says is =
    ⊎_elim
    (λ (x : (status ≡ status_of e) × (n1 ≡ n0) × (err1 ≡ and_then err0 (line_of e))). let both = quiet_ending e status v0 v1 o0 o1 x.0 is counted in (both.0, both.1, x.1))
    (λ (x : (status ≡ status_untold e) × Rose n0 n1 × (n1 ≤ n0 + 1) × WritesFront err0 err1 (line_of e)). absurd (untold_loud e status x.0 is))
    says

-- ---- the words

-- nothing is printed where no memory was found for the words
pub starved_unread : (meant : Option DumpWords) (v : View) (out : Option Text) → Ends Starved meant v out out
starved_unread None v out = refl
starved_unread (Some w) v out = record { comes = tt; prints = λ c told. no_front out (text_of w.form w.db (bytes_of c w.db)) }

misused_words : (meant : Option DumpWords) (v : View) (out0 out1 : Option Text) → Ends Misused meant v out0 out1 → meant ≡ None
misused_words None v out0 out1 h = refl
misused_words (Some w) v out0 out1 h = absurd h.comes

not_three : (a b status : ℕ) → (a ≡ 3 → ⊥) → (b ≡ 3 → ⊥) → status ≡ 3 → (status ≡ a) ⊎ (status ≡ b) → ⊥
not_three a b status one two three is = ⊎_elim (λ (x : status ≡ a). one (sym x ∙ three)) (λ (x : status ≡ b). two (sym x ∙ three)) is

zero_three : ◌≡◌ {A = ℕ} 0 3 → ⊥
zero_three e = omega (arith, e)

one_three : ◌≡◌ {A = ℕ} 1 3 → ⊥
one_three e = omega (arith, e)

four_three : ◌≡◌ {A = ℕ} 4 3 → ⊥
four_three e = omega (arith, e)

three_by : (e : Ending) (status : ℕ) → status ≡ 3 → (status ≡ status_of e) ⊎ (status ≡ status_untold e) → e ≡ Misused
three_by Dumped status three is = absurd (not_three 0 1 status zero_three one_three three is)
three_by Misused status three is = refl
three_by (Refused e) status three is = absurd (not_three 1 1 status one_three one_three three is)
three_by (Broken e) status three is = absurd (not_three 1 1 status one_three one_three three is)
three_by OutputFailed status three is = absurd (not_three 1 1 status one_three one_three three is)
three_by Starved status three is = absurd (not_three 4 1 status four_three one_three three is)

statuses : (e : Ending) (status n0 n1 : ℕ) (err0 err1 : Option Text) → Says e status n0 n1 err0 err1 → (status ≡ status_of e) ⊎ (status ≡ status_untold e)
statuses e status n0 n1 err0 err1 says =
    ⊎_elim
    (λ (x : (status ≡ status_of e) × (n1 ≡ n0) × (err1 ≡ and_then err0 (line_of e))). inl x.0)
    (λ (x : (status ≡ status_untold e) × Rose n0 n1 × (n1 ≤ n0 + 1) × WritesFront err0 err1 (line_of e)). inr x.0)
    says

-- status 3 says that the words are refused
pub usage_by : (e : Ending) (meant : Option DumpWords) (v : View) (out0 out1 : Option Text) (status n0 n1 : ℕ) (err0 err1 : Option Text) → Ends e meant v out0 out1 → Says e status n0 n1 err0 err1 → status ≡ 3 → meant ≡ None
usage_by e meant v out0 out1 status n0 n1 err0 err1 ends says three =
    misused_words meant v out0 out1 (subst (λ (k : Ending). Ends k meant v out0 out1) (three_by e status three (statuses e status n0 n1 err0 err1 says)) ends)
