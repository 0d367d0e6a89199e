-- A call that only asks leaves the database open.
use Rattle.gd_vault.specs.Views.{View, OnlyAsks}
use Rattle.gd_store.specs.Opened.{Opened, SameButCached}
use Rattle.gd_store.proofs.Asking.{file_asked, file_cached, fits_asked, fits_cached}
use Rattle.gd_example.specs.Open.{IsOpen}

pub still_open : {u v : View} {s t : Opened} → SameButCached s t → OnlyAsks u v → IsOpen u s → IsOpen v t
still_open {u = u} {v = v} {s = s} {t = t} same asks open_before = record {
  file = file_cached v s t same (file_asked u v s.file asks open_before.file);
  fits = fits_cached v s t same (fits_asked u v s asks open_before.fits);
}
