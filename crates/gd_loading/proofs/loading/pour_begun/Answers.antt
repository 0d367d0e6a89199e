use Rattle.gd_loading.proofs.Whole.{front-poured}
use Rattle.gd_loading.proofs.loading.pour_begun.Goals as goal
