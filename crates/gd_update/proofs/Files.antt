-- The file over calls and over frames, in the words of the laws.
use Rattle.std.proofs.Common.{◌≡◌, ℕ, List, Some}
use Rattle.gd_file_laws.specs.Frame.{written}
use Rattle.gd_open.specs.Files.{FileBecomes}
use Rattle.gd_vault.specs.Content.{Content}
use Rattle.gd_vault.specs.Effects as vault
use Rattle.gd_vault.specs.Frame.{Within}
use Rattle.gd_vault.specs.Views.{View, content_of}
use Rattle.gd_vault.proofs.OneFile as one

-- what is told at the end of a frame was told at its start
pub told_first : {mine : ℕ → Type 0} {named : List ℕ → Type 0} (u v : View) (d : Content) → Within mine named u v → content_of v.told ≡ Some d → (c : Content) × (content_of u.told ≡ Some c)
told_first {mine = mine} {named = named} u v d w told = one.frame_told mine named u.told v.told d w.told told

-- a write, in the words of the laws
pub becomes_law : (old new : View) (f at : ℕ) (bs : List ℕ) → FileBecomes old new f (λ xs ys. ys ≡ vault.written xs at bs) → FileBecomes old new f (λ xs ys. ys ≡ written xs at bs)
unfolding written
becomes_law old new f at bs h = h
