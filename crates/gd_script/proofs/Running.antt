-- The loop over lines: where a run stands after one more, and how it ends.
use Rattle.std.proofs.Common.{◌≡◌, ℕ, ◌+◌, ◌-◌, ◌<◌, ◌≤◌, ◌^◌, inl, inr, true, false, List, [], ◌∷◌, ◌++◌, length, take, drop, Option, Some, None, option_map, Result, Ok, Err, refl, sym, ap, subst, ◌∙◌, arith, length-append}
use Rattle.std.proofs.lemmas.List.{append-nil, append_assoc}
use Rattle.gd_base.specs.Causes.{Rose}
use Rattle.gd_base.specs.Sources.{IsAtEnd}
use Rattle.gd_base.specs.Streams.{and_then}
use Rattle.gd_base.proofs.Writes.{all-after, put-nothing}
use Rattle.gd_lang.specs.Commands.{command_of_line}
use Rattle.gd_vault.specs.Views.{View}
use Rattle.gd_script.specs.Answers.{Rules}
use Rattle.gd_script.specs.Chain.{Calm, Counted, Fitting}
use Rattle.gd_script.specs.Lines.{Line, commands_of, is_quit, has_feed}
use Rattle.gd_script.specs.Reading.{FailsOnce, Gives, IsWithin, Reading, Takes, reading}
use Rattle.gd_script.specs.Run.{AfterNext, AllCalm, Begins, Cut, Ended, EndsFor, ErrFails, InputFor, Nexts, OutFails, Quits, ReadsAll, Runs, Standing, reread}
use Rattle.gd_script.specs.Says.{error_line, error_lines}
use Rattle.gd_script.specs.Turns.{CalmTurned, ErrTurned, Objects, OutTurned, TurnEnds, Turned, Untouched, faults_of, last_ending}
use Rattle.gd_script.specs.declared.ending.Ending.{Ending}
use Rattle.gd_script.specs.declared.ending.Ending.TheVariants.{Read, InputFailed, TooLong, OutputFailed, ErrorFailed, Starved}
use Rattle.gd_script.specs.declared.reader.Lines.{Lines}
use Rattle.gd_script.specs.declared.reader.Next.{Next}
use Rattle.gd_script.specs.declared.reader.Next.TheVariants as next
use Rattle.gd_script.specs.declared.turns.Turn.{Turn}
use Rattle.gd_script.proofs.Chains.{calm_none, calm_turn, count_none, count_turn, fitting_none, fitting_turn, last_turn, runs_more, runs_none, runs_reread}
use Rattle.gd_script.proofs.Cutting.{all_end, all_last, all_quit, begins_line, begins_none, cut_line, cut_none, whole_front}
use Rattle.gd_script.proofs.Pieces.{takes_none, told_twice}

-- ---- error lines

lines_push : (n : ℕ) (ts : List Turn) (t : Turn) → error_lines n (ts ++ t ∷ []) ≡ error_lines n ts ++ error_line (n + length ts) t.answer
unfolding error_lines
lines_push n [] t = append-nil (error_line n t.answer) ∙ ap (λ (k : ℕ). error_line k t.answer) (omega arith)
lines_push n (s ∷ ts) t =
    let number : (n + 1) + length ts ≡ n + length (s ∷ ts) = omega arith in
    ap (λ (bs : List ℕ). error_line n s.answer ++ bs) (lines_push (n + 1) ts t)
    ∙ (sym (append_assoc (error_line n s.answer) (error_lines (n + 1) ts) (error_line ((n + 1) + length ts) t.answer))
    ∙ ap (λ (k : ℕ). (error_line n s.answer ++ error_lines (n + 1) ts) ++ error_line k t.answer) number)

lines_of_turn : (turns turns' : List Turn) (t : Turn) → turns' ≡ turns ++ t ∷ [] → error_lines 1 turns' ≡ error_lines 1 turns ++ error_line (length turns + 1) t.answer
lines_of_turn turns turns' t pushed =
    ap (error_lines 1) pushed ∙ (lines_push 1 turns t ∙ ap (λ (k : ℕ). error_lines 1 turns ++ error_line k t.answer) (omega arith))

no_error_lines : error_lines 1 [] ≡ []
unfolding error_lines
no_error_lines = refl

-- ---- the beginning

told_all : (o : Option (List ℕ)) → o ≡ option_map (λ (xs : List ℕ). [] ++ xs) o
told_all None = refl
told_all (Some xs) = refl

pub standing_none : {T : Type 0} (rules : Rules T) (ready : View → T → Type 0) (r : Reading) (turns : List Turn) (o : Objects T)
    → ready o.scene.view o.scene.held → turns ≡ [] → r.waiting ≡ [] → r.taken ≡ 0 → Standing rules ready r turns o o
standing_none {T = T} rules ready r turns o is_ready none empty zero_taken =
    let few : length turns + length r.waiting ≤ r.taken = omega (arith, ap length none, ap length empty, zero_taken) in record {
      is_ready = is_ready;
      ds = [];
      taken = [];
      took = told_all o.left;
      many = zero_taken;
      few = few;
      cut = subst (λ (w : List ℕ). Cut [] [] w) (sym empty) cut_none;
      same = sym (ap length none);
      ran = subst (λ (ts : List Turn). Runs rules [] ts o o) (sym none) (runs_none rules o);
      calm = subst (λ (ts : List Turn). Calm (faults_of o) [] ts) (sym none) (calm_none (faults_of o));
      counted = subst (λ (ts : List Turn). Counted (faults_of o) ts (faults_of o)) (sym none) (count_none (faults_of o));
      fitting = subst (λ (ts : List Turn). Fitting rules [] ts o.scene o.scene) (sym none) (fitting_none rules o.scene);
      said = subst (λ (ts : List Turn). o.said ≡ and_then o.said (error_lines 1 ts)) (sym none) (subst (λ (bs : List ℕ). o.said ≡ and_then o.said bs) (sym no_error_lines) (put-nothing o.said));
      input_calm = refl;
      out_calm = refl;
      err_calm = refl;
    }

-- ---- a line was read

-- what stands before a turn, after its line was read
pub record Before {T : Type 0} (rules : Rules T) (ds : List Line) (taken : List ℕ) (turns : List Turn) (old mid : Objects T) : Type 0 where
  pub took : old.left ≡ option_map (λ xs. taken ++ xs) mid.left
  pub same : length ds ≡ length turns
  pub ran : Runs rules ds turns old mid
  pub counted : Counted (faults_of old) turns (faults_of mid)
  pub fitting : Fitting rules ds turns old.scene mid.scene
  pub calm : Calm (faults_of old) ds turns
  pub said : mid.said ≡ and_then old.said (error_lines 1 turns)
  pub input_calm : mid.input_faults ≡ old.input_faults
  pub out_calm : mid.scene.out_faults ≡ old.scene.out_faults
  pub err_calm : mid.err_faults ≡ old.err_faults

took_more : (old mid new : Option (List ℕ)) (taken got : List ℕ) → old ≡ option_map (λ (xs : List ℕ). taken ++ xs) mid → mid ≡ option_map (λ (xs : List ℕ). got ++ xs) new
    → old ≡ option_map (λ (xs : List ℕ). (taken ++ got) ++ xs) new
took_more old mid new taken got a b = a ∙ (ap (option_map (λ (xs : List ℕ). taken ++ xs)) b ∙ told_twice taken got new)

-- its line was read without a fault of the input
before : {T : Type 0} (rules : Rules T) (ready : View → T → Type 0) (r : Reading) (turns : List Turn) (old mid new : Objects T) (got : List ℕ)
    → (s : Standing rules ready r turns old mid) → mid.left ≡ option_map (λ (xs : List ℕ). got ++ xs) new.left → new.input_faults ≡ mid.input_faults
    → Before rules s.ds (s.taken ++ got) turns old (reread mid new)
before rules ready r turns old mid new got s left input = record {
  took = took_more old.left mid.left new.left s.taken got s.took left;
  same = s.same;
  ran = runs_reread rules s.ds turns old mid (reread mid new) refl input refl s.ran;
  counted = subst (λ (k : ℕ). Counted (faults_of old) turns (record (faults_of mid) { input = k })) (sym input) s.counted;
  fitting = s.fitting;
  calm = s.calm;
  said = s.said;
  input_calm = input ∙ s.input_calm;
  out_calm = s.out_calm;
  err_calm = s.err_calm;
}

-- ---- the turn

said_more : {T : Type 0} (rules : Rules T) (line : Line) (turns turns' : List Turn) (old mid new : Objects T) (t : Turned rules line turns turns' mid new)
    → mid.said ≡ and_then old.said (error_lines 1 turns) → new.said ≡ and_then mid.said (error_line (length turns + 1) t.turn.answer) → new.said ≡ and_then old.said (error_lines 1 turns')
said_more rules line turns turns' old mid new t all one =
    all-after old.said mid.said new.said (error_lines 1 turns) (error_line (length turns + 1) t.turn.answer) all one
    ∙ ap (and_then old.said) (sym (lines_of_turn turns turns' t.turn t.pushed))

same_more : {T : Type 0} (rules : Rules T) (line : Line) (ds : List Line) (turns turns' : List Turn) (mid new : Objects T) → Turned rules line turns turns' mid new → length ds ≡ length turns → length (ds ++ line ∷ []) ≡ length turns'
same_more rules line ds turns turns' mid new t same =
    length-append ds (line ∷ []) ∙ (ap (λ (k : ℕ). k + 1) same ∙ (sym (length-append turns (t.turn ∷ [])) ∙ sym (ap length t.pushed)))

-- a turn more, behind which another may come
pub stands_more : {T : Type 0} (rules : Rules T) (ready : View → T → Type 0) (r r' : Reading) (line : List ℕ) (turns turns' : List Turn) (old mid new : Objects T) (got : List ℕ)
    → (s : Standing rules ready r turns old mid) → Takes got (record r { left = mid.left; faults = mid.input_faults }) (record r' { left = new.left; faults = new.input_faults })
    → r.waiting ++ got ≡ line ++ 10 ∷ r'.waiting → has_feed line ≡ false → new.input_faults ≡ mid.input_faults
    → CalmTurned rules (command_of_line line) false turns turns' (reread mid new) new → ready new.scene.view new.scene.held
    → Standing rules ready r' turns' old new
stands_more rules ready r r' line turns turns' old mid new got s takes is plain input c is_ready =
    let b = before rules ready r turns old mid new got s takes.left input in
    let t = c.turned in
    let d = command_of_line line in
    let pushed : length turns' ≡ length turns + 1 = ap length t.pushed ∙ length-append turns (t.turn ∷ []) in
    let sizes : length r.waiting + length got ≡ length line + length (10 ∷ r'.waiting) = sym (length-append r.waiting got) ∙ (ap length is ∙ length-append line (10 ∷ r'.waiting)) in
    let all : length (s.taken ++ got) ≡ length s.taken + length got = length-append s.taken got in
    record {
      is_ready = is_ready;
      ds = s.ds ++ d ∷ [];
      taken = s.taken ++ got;
      took = b.took;
      many = omega (arith, takes.taken, s.many, all);
      few = omega (arith, takes.taken, s.few, pushed, sizes);
      cut = cut_line s.ds s.taken r.waiting got line r'.waiting s.cut is plain c.quits_is;
      same = same_more rules d s.ds turns turns' (reread mid new) new t b.same;
      ran = runs_more rules s.ds d turns turns' old (reread mid new) new b.same t b.ran;
      counted = count_turn rules d turns turns' old (reread mid new) new t b.counted;
      fitting = fitting_turn rules s.ds d turns turns' old.scene (reread mid new) new t b.fitting;
      calm = calm_turn rules s.ds d turns turns' old (reread mid new) new c b.calm b.counted;
      said = said_more rules d turns turns' old (reread mid new) new t b.said c.calm.said;
      input_calm = b.input_calm;
      out_calm = c.calm.out ∙ b.out_calm;
      err_calm = c.calm.err ∙ b.err_calm;
    }

-- ---- the end with a turn

ended_turn : {T : Type 0} (rules : Rules T) (ending : Ending) (line : Line) (ds : List Line) (taken : List ℕ) (turns turns' : List Turn) (old mid new : Objects T)
    → Before rules ds taken turns old mid → mid.left ≡ new.left → Turned rules line turns turns' mid new
    → ((rest : List ℕ) → new.left ≡ Some rest → Begins (commands_of (taken ++ rest)) (ds ++ line ∷ []))
    → (new.input_faults ≡ old.input_faults → InputFor ending old.input_faults new.input_faults) → EndsFor ending (ds ++ line ∷ []) taken turns' old new new → Ended rules ending turns' old new
ended_turn rules ending line ds taken turns turns' old mid new b left t begins input why =
    let same : new.input_faults ≡ old.input_faults = t.input_faults ∙ b.input_calm in record {
      mid = new;
      scene = refl;
      said_same = refl;
      err_same = refl;
      input_calm = same;
      input = input same;
      ds = ds ++ line ∷ [];
      taken = taken;
      took = b.took ∙ ap (option_map (λ xs. taken ++ xs)) left;
      same = same_more rules line ds turns turns' mid new t b.same;
      begins = begins;
      ran = runs_more rules ds line turns turns' old mid new b.same t b.ran;
      counted = count_turn rules line turns turns' old mid new t b.counted;
      fitting = fitting_turn rules ds line turns turns' old.scene mid new t b.fitting;
      why = why;
    }

-- the input was read to its end
reads_all : {T : Type 0} (rules : Rules T) (line : Line) (ds : List Line) (taken : List ℕ) (turns turns' : List Turn) (old mid new : Objects T)
    → Before rules ds taken turns old mid → CalmTurned rules line false turns turns' mid new → IsAtEnd new.left → commands_of taken ≡ ds ++ line ∷ []
    → ReadsAll (ds ++ line ∷ []) taken turns' old new new
reads_all rules line ds taken turns turns' old mid new b t end all = record {
  calm = record {
    calm = calm_turn rules ds line turns turns' old mid new t b.calm b.counted;
    out = t.calm.out ∙ b.out_calm;
    err = t.calm.err ∙ b.err_calm;
    said = said_more rules line turns turns' old mid new t.turned b.said t.calm.said;
  };
  end = end;
  all = all;
}

-- the line is that of `quit`
quits_with : {T : Type 0} (rules : Rules T) (line : Line) (ds : List Line) (taken : List ℕ) (turns turns' : List Turn) (old mid new : Objects T)
    → Before rules ds taken turns old mid → CalmTurned rules line true turns turns' mid new → ((rest : List ℕ) → new.left ≡ Some rest → commands_of (taken ++ rest) ≡ ds ++ line ∷ [])
    → Quits (ds ++ line ∷ []) taken turns' old new new
unfolding last_turn
quits_with rules line ds taken turns turns' old mid new b t all = record {
  last = last_turn rules ds line turns turns' (faults_of old) mid new t.turned b.calm;
  quits = t.quits_is;
  out = t.calm.out ∙ b.out_calm;
  err = t.calm.err ∙ b.err_calm;
  said = said_more rules line turns turns' old mid new t.turned b.said t.calm.said;
  all = all;
}

-- the output failed
out_fails : {T : Type 0} (rules : Rules T) (line : Line) (ds : List Line) (taken : List ℕ) (turns turns' : List Turn) (old mid new : Objects T)
    → Before rules ds taken turns old mid → OutTurned rules line turns turns' mid new → OutFails (ds ++ line ∷ []) turns' old new
out_fails rules line ds taken turns turns' old mid new b t = record {
  last = last_turn rules ds line turns turns' (faults_of old) mid new t.turned b.calm;
  rose = subst (λ (k : ℕ). Rose k new.scene.out_faults) b.out_calm t.rose;
  err = t.err ∙ b.err_calm;
  said = said_more rules line turns turns' old mid new t.turned b.said t.said;
}

-- standard error failed
err_fails : {T : Type 0} (rules : Rules T) (line : Line) (ds : List Line) (taken : List ℕ) (turns turns' : List Turn) (old mid new : Objects T)
    → Before rules ds taken turns old mid → ErrTurned rules line turns turns' mid new → ErrFails (ds ++ line ∷ []) turns' old new
unfolding last_turn
err_fails rules line ds taken turns turns' old mid new b t =
    let said = t.turned.said in
    let text = error_line (length turns + 1) t.turned.turn.answer in record {
      last = last_turn rules ds line turns turns' (faults_of old) mid new t.turned b.calm;
      fails = subst (λ (k : ℕ). FailsOnce k new.err_faults) b.err_calm t.fails;
      front = take said.0 text;
      is_front = (said.0, refl);
      said = all-after old.said mid.said new.said (error_lines 1 turns) (take said.0 text) b.said said.2;
    }

none_some : (e : Ending) → None ≡ Some e → ⊥
none_some e is = cc

-- by how the run ends in the turn
ended_by : {T : Type 0} (rules : Rules T) (end : Option Ending) (line : Line) (ds : List Line) (taken : List ℕ) (turns turns' : List Turn) (old mid new : Objects T)
    → Before rules ds taken turns old mid → mid.left ≡ new.left → TurnEnds rules line end turns turns' mid new
    → ((rest : List ℕ) → new.left ≡ Some rest → Begins (commands_of (taken ++ rest)) (ds ++ line ∷ []))
    → ((rest : List ℕ) → new.left ≡ Some rest → Begins (commands_of (taken ++ rest)) ds)
    → (None ≡ end → IsAtEnd new.left × (commands_of taken ≡ ds ++ line ∷ []))
    → (end ≡ Some Read → (rest : List ℕ) → new.left ≡ Some rest → commands_of (taken ++ rest) ≡ ds ++ line ∷ [])
    → Ended rules (last_ending end) turns' old new
ended_by rules None line ds taken turns turns' old mid new b left t begins none whole quits =
    let w = whole refl in
    ended_turn rules Read line ds taken turns turns' old mid new b left t.turned begins (λ same. same) (inl (reads_all rules line ds taken turns turns' old mid new b t w.0 w.1))
ended_by rules (Some Read) line ds taken turns turns' old mid new b left t begins none whole quits =
    ended_turn rules Read line ds taken turns turns' old mid new b left t.turned begins (λ same. same) (inr (quits_with rules line ds taken turns turns' old mid new b t (quits refl)))
ended_by rules (Some OutputFailed) line ds taken turns turns' old mid new b left t begins none whole quits =
    ended_turn rules OutputFailed line ds taken turns turns' old mid new b left t.turned begins (λ same. same) (out_fails rules line ds taken turns turns' old mid new b t)
ended_by rules (Some ErrorFailed) line ds taken turns turns' old mid new b left t begins none whole quits =
    ended_turn rules ErrorFailed line ds taken turns turns' old mid new b left t.turned begins (λ same. same) (err_fails rules line ds taken turns turns' old mid new b t)
ended_by {T = T} rules (Some Starved) line ds taken turns turns' old mid new b left t begins none whole quits = record {
  mid = mid;
  scene = ap (λ (o : Objects T). o.scene) t.same;
  said_same = ap (λ (o : Objects T). o.said) t.same;
  err_same = ap (λ (o : Objects T). o.err_faults) t.same;
  input_calm = b.input_calm;
  input = ap (λ (o : Objects T). o.input_faults) t.same ∙ b.input_calm;
  ds = ds;
  taken = taken;
  took = b.took ∙ ap (option_map (λ xs. taken ++ xs)) left;
  same = b.same ∙ sym (ap length t.kept);
  begins = none;
  ran = subst (λ (ts : List Turn). Runs rules ds ts old mid) (sym t.kept) b.ran;
  counted = subst (λ (ts : List Turn). Counted (faults_of old) ts (faults_of mid)) (sym t.kept) b.counted;
  fitting = subst (λ (ts : List Turn). Fitting rules ds ts old.scene mid.scene) (sym t.kept) b.fitting;
  why = subst (λ (ts : List Turn). AllCalm ds ts old mid) (sym t.kept) (record { calm = b.calm; out = b.out_calm; err = b.err_calm; said = b.said });
}
ended_by rules (Some InputFailed) line ds taken turns turns' old mid new b left t begins none whole quits = absurd t
ended_by rules (Some TooLong) line ds taken turns turns' old mid new b left t begins none whole quits = absurd t

-- ---- the end without one

all_calm : {T : Type 0} (rules : Rules T) (ready : View → T → Type 0) (r : Reading) (turns turns' : List Turn) (old mid : Objects T)
    → (s : Standing rules ready r turns old mid) → turns' ≡ turns → AllCalm s.ds turns' old mid
all_calm rules ready r turns turns' old mid s same =
    subst (λ (ts : List Turn). AllCalm s.ds ts old mid) (sym same) (record { calm = s.calm; out = s.out_calm; err = s.err_calm; said = s.said })

ended_none : {T : Type 0} (rules : Rules T) (ready : View → T → Type 0) (ending : Ending) (r : Reading) (turns turns' : List Turn) (old mid new : Objects T) (got : List ℕ)
    → (s : Standing rules ready r turns old mid) → mid.left ≡ option_map (λ (xs : List ℕ). got ++ xs) new.left → InputFor ending old.input_faults new.input_faults → Untouched turns turns' (reread mid new) new
    → EndsFor ending s.ds (s.taken ++ got) turns' old mid new → Ended rules ending turns' old new
ended_none {T = T} rules ready ending r turns turns' old mid new got s left input u why = record {
  mid = mid;
  scene = ap (λ (o : Objects T). o.scene) u.same;
  said_same = ap (λ (o : Objects T). o.said) u.same;
  err_same = ap (λ (o : Objects T). o.err_faults) u.same;
  input_calm = s.input_calm;
  input = input;
  ds = s.ds;
  taken = s.taken ++ got;
  took = took_more old.left mid.left new.left s.taken got s.took left;
  same = s.same ∙ sym (ap length u.kept);
  begins = λ rest is. begins_none s.ds s.taken r.waiting got rest s.cut;
  ran = subst (λ (ts : List Turn). Runs rules s.ds ts old mid) (sym u.kept) s.ran;
  counted = subst (λ (ts : List Turn). Counted (faults_of old) ts (faults_of mid)) (sym u.kept) s.counted;
  fitting = subst (λ (ts : List Turn). Fitting rules s.ds ts old.scene mid.scene) (sym u.kept) s.fitting;
  why = why;
}

at_end : (left : Option (List ℕ)) (rest : List ℕ) → IsAtEnd left → left ≡ Some rest → rest ≡ []
at_end left rest e is =
    let none : List ℕ = [] in
    let both : Some rest ≡ Some none = sym is ∙ (e ∙ ap (option_map (λ (xs : List ℕ). none)) is) in cc

-- ---- the next line

next_on : {T : Type 0} (rules : Rules T) (ready : View → T → Type 0) (n : Result Next Ending) (turns turns' : List Turn) (a b : Lines) (old mid new : Objects T)
    → Standing rules ready (reading a mid.left mid.input_faults) turns old mid → Gives n (reading a mid.left mid.input_faults) (reading b new.left new.input_faults)
    → AfterNext rules n None turns turns' (reread mid new) new → ready new.scene.view new.scene.held → Standing rules ready (reading b new.left new.input_faults) turns' old new
next_on rules ready (Ok (next.Line line)) turns turns' a b old mid new s g after is_ready =
    stands_more rules ready (reading a mid.left mid.input_faults) (reading b new.left new.input_faults) line.items turns turns' old mid new g.got s g.takes g.is.0 g.is.1 g.is.2 after is_ready
next_on rules ready (Ok (next.Last line)) turns turns' a b old mid new s g after is_ready = absurd (none_some (last_ending after.0) after.2)
next_on rules ready (Ok next.End) turns turns' a b old mid new s g after is_ready = absurd (none_some Read after.0)
next_on rules ready (Err e) turns turns' a b old mid new s g after is_ready = absurd (none_some e after.0)

pub stands_next : {T : Type 0} (rules : Rules T) (ready : View → T → Type 0) (turns turns' : List Turn) (a b : Lines) (old mid new : Objects T)
    → Standing rules ready (reading a mid.left mid.input_faults) turns old mid → Nexts rules None turns turns' a b mid new → ready new.scene.view new.scene.held
    → Standing rules ready (reading b new.left new.input_faults) turns' old new
stands_next rules ready turns turns' a b old mid new s x is_ready = next_on rules ready x.next turns turns' a b old mid new s x.gives x.after is_ready

quit_of : {T : Type 0} (rules : Rules T) (line : Line) (ending : Ending) (turns turns' : List Turn) (mid new : Objects T) → TurnEnds rules line (Some ending) turns turns' mid new → ending ≡ Read → is_quit line ≡ true
quit_of rules line Read turns turns' mid new t is = t.quits_is
quit_of rules line InputFailed turns turns' mid new t is = absurd t
quit_of rules line TooLong turns turns' mid new t is = absurd t
quit_of rules line OutputFailed turns turns' mid new t is = cc
quit_of rules line ErrorFailed turns turns' mid new t is = cc
quit_of rules line Starved turns turns' mid new t is = cc

some_inside : (e f : Ending) → Some e ≡ Some f → e ≡ f
some_inside e f is = cc

fault_why : {T : Type 0} (rules : Rules T) (ready : View → T → Type 0) (e : Ending) (turns turns' : List Turn) (a b : Lines) (old mid new : Objects T)
    → (s : Standing rules ready (reading a mid.left mid.input_faults) turns old mid) → (g : Gives (Err e) (reading a mid.left mid.input_faults) (reading b new.left new.input_faults))
    → Untouched turns turns' (reread mid new) new → Ended rules e turns' old new
fault_why rules ready InputFailed turns turns' a b old mid new s g u =
    let r = reading a mid.left mid.input_faults in
    ended_none rules ready InputFailed r turns turns' old mid new g.got s g.takes.left (subst (λ (k : ℕ). FailsOnce k new.input_faults) s.input_calm g.is.1) u
    (all_calm rules ready r turns turns' old mid s u.kept, whole_front s.ds s.taken _ g.got s.cut g.is.0)
fault_why rules ready TooLong turns turns' a b old mid new s g u =
    let r = reading a mid.left mid.input_faults in
    let many : length (s.taken ++ g.got) ≡ 2 ^ 32 = omega (arith, g.is.1, g.takes.taken, s.many, length-append s.taken g.got) in
    ended_none rules ready TooLong r turns turns' old mid new g.got s g.takes.left (g.is.2 ∙ s.input_calm) u
    (all_calm rules ready r turns turns' old mid s u.kept, whole_front s.ds s.taken _ g.got s.cut g.is.0, many)
fault_why rules ready Starved turns turns' a b old mid new s g u =
    let r = reading a mid.left mid.input_faults in
    ended_none rules ready Starved r turns turns' old mid new g.got s g.takes.left (g.is ∙ s.input_calm) u (all_calm rules ready r turns turns' old mid s u.kept)
fault_why rules ready Read turns turns' a b old mid new s g u = absurd g.is
fault_why rules ready OutputFailed turns turns' a b old mid new s g u = absurd g.is
fault_why rules ready ErrorFailed turns turns' a b old mid new s g u = absurd g.is

last_all : {T : Type 0} (rules : Rules T) (ready : View → T → Type 0) (r : Reading) (line : List ℕ) (turns : List Turn) (old mid new : Objects T) (got : List ℕ)
    → (s : Standing rules ready r turns old mid) → r.waiting ++ got ≡ line → has_feed line ≡ false → 0 < length line → IsAtEnd new.left
    → (rest : List ℕ) → new.left ≡ Some rest → commands_of ((s.taken ++ got) ++ rest) ≡ s.ds ++ command_of_line line ∷ []
last_all rules ready r line turns old mid new got s is plain some end rest left =
    ap (λ (bs : List ℕ). commands_of ((s.taken ++ got) ++ bs)) (at_end new.left rest end left) ∙ all_last s.ds s.taken r.waiting got line s.cut is plain some

-- nothing is left
nothing_left : (bytes : List ℕ) (ds : List Line) → commands_of (bytes ++ []) ≡ ds → commands_of bytes ≡ ds
nothing_left bytes ds is = ap commands_of (sym (append-nil bytes)) ∙ is

next_ends : {T : Type 0} (rules : Rules T) (ready : View → T → Type 0) (n : Result Next Ending) (ending : Ending) (turns turns' : List Turn) (a b : Lines) (old mid new : Objects T)
    → Standing rules ready (reading a mid.left mid.input_faults) turns old mid → Gives n (reading a mid.left mid.input_faults) (reading b new.left new.input_faults)
    → AfterNext rules n (Some ending) turns turns' (reread mid new) new → Ended rules ending turns' old new
next_ends rules ready (Ok (next.Line line)) ending turns turns' a b old mid new s g after =
    let r = reading a mid.left mid.input_faults in
    ended_by rules (Some ending) (command_of_line line.items) s.ds (s.taken ++ g.got) turns turns' old (reread mid new) new
    (before rules ready r turns old mid new g.got s g.takes.left g.is.2) refl after
    (λ rest left. begins_line s.ds s.taken r.waiting g.got line.items (reading b new.left new.input_faults).waiting rest s.cut g.is.0 g.is.1)
    (λ rest left. begins_none s.ds s.taken r.waiting g.got rest s.cut)
    (λ none. absurd (none_some ending none))
    (λ read rest left. all_quit s.ds s.taken r.waiting g.got line.items (reading b new.left new.input_faults).waiting rest s.cut g.is.0 g.is.1 (quit_of rules (command_of_line line.items) ending turns turns' (reread mid new) new after (some_inside ending Read read)))
next_ends rules ready (Ok (next.Last line)) ending turns turns' a b old mid new s g after =
    let r = reading a mid.left mid.input_faults in
    let all = last_all rules ready r line.items turns old mid new g.got s g.is.0 g.is.1 g.is.2 g.is.3 in
    subst (λ (e : Ending). Ended rules e turns' old new) (sym (some_inside ending (last_ending after.0) after.2))
    (ended_by rules after.0 (command_of_line line.items) s.ds (s.taken ++ g.got) turns turns' old (reread mid new) new
    (before rules ready r turns old mid new g.got s g.takes.left g.is.4) refl after.1
    (λ rest left. ([], all rest left ∙ sym (append-nil (s.ds ++ command_of_line line.items ∷ []))))
    (λ rest left. begins_none s.ds s.taken r.waiting g.got rest s.cut)
    (λ none. (g.is.3, nothing_left (s.taken ++ g.got) (s.ds ++ command_of_line line.items ∷ []) (all_last s.ds s.taken r.waiting g.got line.items s.cut g.is.0 g.is.1 g.is.2)))
    (λ read rest left. all rest left))
next_ends rules ready (Ok next.End) ending turns turns' a b old mid new s g after =
    let r = reading a mid.left mid.input_faults in
    let u = after.1 in
    subst (λ (e : Ending). Ended rules e turns' old new) (sym (some_inside ending Read after.0))
    (ended_none rules ready Read r turns turns' old mid new g.got s g.takes.left (g.is.2 ∙ s.input_calm) u
    (inl (record {
      calm = all_calm rules ready r turns turns' old mid s u.kept;
      end = g.is.1;
      all = nothing_left (s.taken ++ g.got) s.ds (all_end s.ds s.taken r.waiting g.got s.cut g.is.0);
    })))
next_ends rules ready (Err e) ending turns turns' a b old mid new s g after =
    subst (λ (k : Ending). Ended rules k turns' old new) (sym (some_inside ending e after.0))
    (fault_why rules ready e turns turns' a b old mid new s g after.1)

pub ends_next : {T : Type 0} (rules : Rules T) (ready : View → T → Type 0) (ending : Ending) (turns turns' : List Turn) (a b : Lines) (old mid new : Objects T)
    → Standing rules ready (reading a mid.left mid.input_faults) turns old mid → Nexts rules (Some ending) turns turns' a b mid new → Ended rules ending turns' old new
ends_next rules ready ending turns turns' a b old mid new s x = next_ends rules ready x.next ending turns turns' a b old mid new s x.gives x.after

-- ---- the measure

measure_by : {T : Type 0} (rules : Rules T) (n : Result Next Ending) (turns turns' : List Turn) (a b : Lines) (mid new : Objects T)
    → Gives n (reading a mid.left mid.input_faults) (reading b new.left new.input_faults) → AfterNext rules n None turns turns' (reread mid new) new → b.taken ≤ 2 ^ 32
    → (2 ^ 32 - b.taken) + length (drop b.at b.piece.items) < (2 ^ 32 - a.taken) + length (drop a.at a.piece.items)
measure_by rules (Ok (next.Line line)) turns turns' a b mid new g after within =
    let wa = drop a.at a.piece.items in
    let wb = drop b.at b.piece.items in
    let sizes : length wa + length g.got ≡ length line.items + length (10 ∷ wb) = sym (length-append wa g.got) ∙ (ap length g.is.0 ∙ length-append line.items (10 ∷ wb)) in
    omega (arith, sizes, g.takes.taken)
measure_by rules (Ok (next.Last line)) turns turns' a b mid new g after within = absurd (none_some (last_ending after.0) after.2)
measure_by rules (Ok next.End) turns turns' a b mid new g after within = absurd (none_some Read after.0)
measure_by rules (Err e) turns turns' a b mid new g after within = absurd (none_some e after.0)

pub measure_next : {T : Type 0} (rules : Rules T) (turns turns' : List Turn) (a b : Lines) (mid new : Objects T)
    → Nexts rules None turns turns' a b mid new → b.taken ≤ 2 ^ 32
    → (2 ^ 32 - b.taken) + length (drop b.at b.piece.items) < (2 ^ 32 - a.taken) + length (drop a.at a.piece.items)
measure_next rules turns turns' a b mid new x within = measure_by rules x.next turns turns' a b mid new x.gives x.after within

-- ---- more of the beginning and the end

-- no room was found for a turn
pub nexts_starved : {T : Type 0} (rules : Rules T) (turns turns' : List Turn) (a : Lines) (o : Objects T) → turns' ≡ turns → Nexts rules (Some Starved) turns turns' a a o o
nexts_starved rules turns turns' a o same =
    let r = reading a o.left o.input_faults in record {
      next = Err Starved;
      gives = record { got = []; takes = takes_none r r refl refl; is = refl };
      after = (refl, record { kept = same; same = refl });
    }

-- a new reader has taken nothing
pub new_reading : (l : Lines) → l.at ≡ 0 → l.piece.items ≡ [] → l.taken ≡ 0 → IsWithin l × (drop l.at l.piece.items ≡ [])
new_reading l place empty taken = (
  record { place = omega (arith, place); taken = omega (arith, taken) },
  ap (λ (n : ℕ). drop n l.piece.items) place ∙ empty,
)
