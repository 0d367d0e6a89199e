use Rattle.gd_file_laws.proofs.Points as points
use Rattle.gd_file_laws.proofs.sound_by_parts.Goals as goal

pub returns : goal.returns
returns c = record { sound = λ file. (points.sound_parts file, points.made_sound file); points = points.by_points }
