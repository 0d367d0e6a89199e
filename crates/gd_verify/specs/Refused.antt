-- Why a file was not found sound.
use Rattle.std.specs.Prelude.{◌≡◌, ℕ, List, [], ◌∷◌, ◌++◌, map, Option, Some}
use Rattle.std.specs.List.{flat_map}
use Rattle.gd_base.specs.Causes.{Rose}
use Rattle.gd_base.specs.declared.errors.DbError.{DbError}
use Rattle.gd_base.specs.declared.errors.DbError.TheVariants.{BadAvail}
use Rattle.gd_format.specs.declared.Header.{Header}
use Rattle.gd_format.specs.declared.Held.{Held}
use Rattle.gd_format.specs.First.{or_else, unless}
use Rattle.gd_format.specs.HeaderFault.{dir_size_of}
use Rattle.gd_format.specs.Avail.{is_avail}
use Rattle.gd_format.specs.File.{places_of}
use Rattle.gd_format.specs.Sound.{bucket_held, free_fault, free_held, itself, meet_fault, most_of, place_of, records_held, sound_fault, stack_fault, stack_held, stack_places, table_held, table_of, top_of}
use Rattle.gd_vault.specs.Content.{File, Content}
use Rattle.gd_vault.specs.Views.{View, content_of}
use Rattle.gd_readable.specs.Asks.{Refuses}

-- a fault of the vault, want of memory, or the first refusal of the file
abbrev pub RefusesSound : DbError → ℕ → View → View → Type 0
RefusesSound e f old new = Refuses e (Rose old.faults new.faults) ((c : Content) (x : File) → content_of old.told ≡ Some c → c.files f ≡ Some x → sound_fault x.bytes ≡ Some e)

-- the refusal of the table of free space, and then of the stack
abbrev pub blocks_fault : List ℕ → Header → Option DbError
blocks_fault file h = or_else (unless (is_avail (table_of file h) h.avail_size) (BadAvail (place_of h))) (stack_fault file (most_of h) (top_of file h))

-- the extents of the table, and of the stack with its blocks
abbrev pub blocks_held : List ℕ → Header → List Held
blocks_held file h = table_held file h ++ flat_map (stack_held file) (stack_places file (top_of file h))

-- the header's block, the directory and the buckets
abbrev pub fixed_held : Header → List ℕ → List Held
fixed_held h places = itself 0 h.block ∷ itself h.dir (dir_size_of h.dir_bits) ∷ map (bucket_held h) places

-- all extents in their order, by those of the table and of the stack
abbrev pub all_held : List ℕ → Header → List Held → List Held
all_held file h space = ((fixed_held h (places_of file h) ++ flat_map (records_held file h) (places_of file h)) ++ space) ++ flat_map (free_held file h) (places_of file h)

-- the refusal of the free extents of the buckets, and then of the extents in their order
abbrev pub extents_fault : List ℕ → Header → List Held → Option DbError
extents_fault file h space = or_else (free_fault file h) (meet_fault h.next_block [] (all_held file h space))
