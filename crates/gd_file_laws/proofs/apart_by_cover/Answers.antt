use Rattle.gd_file_laws.proofs.Covers as covers
use Rattle.gd_file_laws.proofs.apart_by_cover.Goals as goal

pub returns : goal.returns
returns c = record { all = covers.by_cover; large = covers.large_by_cover; ends = covers.end_by_cover; adds = covers.cover-append }
