use Rattle.std.proofs.Common.{◌≡◌, ◌∷◌, ◌++◌, ◌∙◌, ℕ, List, [], Some, ap, length, subst}
use Rattle.gd_vault.specs.Content.{File}
use Rattle.gd_vault.specs.Effects.{empty_file}
use Rattle.gd_vault.specs.Events.Call.{Create}
use Rattle.gd_memvault.specs.declared.disk.NameEntry.{NameEntry}
use Rattle.gd_memvault.specs.Disk.{disk_content}
use Rattle.gd_memvault.specs.Image.{RunsNames}
use Rattle.gd_memvault.proofs.Running.{created_runs}
use Rattle.gd_memvault.proofs.disk.Disk.run_create.Goals as goal

pub returns-in-Ok : goal.returns-in-Ok
returns-in-Ok c =
    let old = c.args.self.now in
    let entry : ℕ → NameEntry = λ i. record { name = c.in_ok-copied.field-0; id = Some i } in
    let named : c.add.new.self.names ≡ old.names ++ entry (length old.files) ∷ [] = c.in-Ok.ensures.names.1 ∙ ap (λ i. old.names ++ entry i ∷ []) c.in-Ok.ensures.names.0 in
    let empty : c.new-file.result ≡ empty_file c.args.mode = c.new-file.ensures ∙ ap (λ (l : List ℕ). record { bytes = l; mode = c.args.mode; stamp = 0 }) c.new.ensures.items in
    let more : c.add.new.self.files ≡ old.files ++ empty_file c.args.mode ∷ [] = c.in-Ok.ensures.files ∙ ap (λ (f : File). old.files ++ f ∷ []) empty in
    subst (λ n. RunsNames (disk_content c.args.before.now) (Create n c.args.mode) old c.add.new.self) c.in_ok-copied.ensures
    (created_runs c.args.before.now c.in_ok-copied.field-0 c.args.mode old c.add.new.self named more c.requires)
