use Rattle.gd_map_laws.proofs.Sounds as sounds
use Rattle.gd_map_laws.proofs.sound_by_space.Goals as goal

pub returns : goal.returns
returns c =
    record {
      covers = sounds.cover_is;
      has = sounds.sound_blocks;
      made = sounds.makes_sound;
      side = λ file h blocks i sound. sounds.has_side file h blocks sound i;
    }
