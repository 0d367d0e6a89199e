-- A call that only asks keeps what a trial needs.
use Rattle.gd_vault.specs.Views.{View, OnlyAsks}
use Rattle.gd_store.specs.Opened.{Opened, SameButCached}
use Rattle.gd_store.proofs.Asking.{file_asked, file_cached, fits_asked, fits_cached}
use Rattle.gd_store_tests.specs.Trial.{IsTried}

pub kept : (u v : View) (s t : Opened) → SameButCached s t → OnlyAsks u v → IsTried u s → IsTried v t
kept u v s t same asks tried = record {
  file = file_cached v s t same (file_asked u v s.file asks tried.file);
  fits = fits_cached v s t same (fits_asked u v s asks tried.fits);
}
