-- The counts of faults over the run of a script.
use Rattle.std.proofs.Common.{◌≡◌, ◌≤◌, ap, arith, ℕ, List, [], ◌∷◌}
use Rattle.gd_script.specs.Answers.{Rules, Scene}
use Rattle.gd_script.specs.Chain.{Counted}
use Rattle.gd_script.specs.Script.{Scripted}
use Rattle.gd_script.specs.Turns.{Objects, faults_of}
use Rattle.gd_script.specs.declared.turns.Faults.{Faults}
use Rattle.gd_script.specs.declared.turns.Turn.{Turn}

counted_later : (f : Faults) (ts : List Turn) (g : Faults) → Counted f ts g → (f.out ≤ g.out) × (f.err ≤ g.err)
unfolding Counted
counted_later f [] g c = (omega (arith, ap (λ (h : Faults). h.out) c), omega (arith, ap (λ (h : Faults). h.err) c))
counted_later f (t ∷ ts) g c = let on = counted_later t.faults ts g c.2 in (omega (arith, c.0.out, on.0), omega (arith, c.0.err, on.1))

-- no count of the output and of standard error falls
pub scripted_later : {T : Type 0} (rules : Rules T) (status : ℕ) (turns : List Turn) (old new : Objects T) → Scripted rules status turns old new
    → (old.scene.out_faults ≤ new.scene.out_faults) × (old.err_faults ≤ new.err_faults)
scripted_later {T = T} rules status turns old new s =
    let e = s.ended in
    let counts = counted_later (faults_of old) turns (faults_of e.mid) e.counted in
    let out : old.scene.out_faults ≤ e.mid.scene.out_faults = counts.0 in
    let err : old.err_faults ≤ e.mid.err_faults = counts.1 in
    let same : s.behind.scene.out_faults ≡ e.mid.scene.out_faults = ap (λ (x : Scene T). x.out_faults) e.scene in
    (omega (arith, out, same, s.out_faults), omega (arith, err, e.err_same, s.err_later))
