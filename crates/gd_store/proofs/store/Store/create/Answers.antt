use Rattle.std.proofs.Common.{rules, ◌≡◌, [], refl, sym, ap, subst, ◌∙◌}
use Rattle.gd_base.specs.declared.errors.Format.{Format}
use Rattle.gd_format.specs.File.{records}
use Rattle.gd_create.specs.NewFile.{IsNewHeader, new_file}
use Rattle.gd_store.specs.declared.access.Access.TheVariants.{Writer}
use Rattle.gd_store.specs.Opened.{Opened, Fits, IsCleared, IsOwn, OnFile, OpenedAs}
use Rattle.gd_store.proofs.Clearing.{made_cleared}
use Rattle.gd_store.proofs.Frames.{names_own_still, stands_still, within_named}
use Rattle.gd_store.proofs.Marks.{marks_still}
use Rattle.gd_store.proofs.News.{new_is_header, new_fits, new_native, made_bytes, made_file, empty_table}
use Rattle.gd_store.proofs.store.Store.create.Goals as goal

pub empty-requires : goal.empty-requires
empty-requires g c = record { header = new_is_header c.new_header-header.result c.new_header-header.ensures.new }

pub new-requires-clause-header : goal.new-requires-clause-header
new-requires-clause-header g c = new_is_header c.new_header-header.result c.new_header-header.ensures.new

pub new-requires-clause-fields : goal.new-requires-clause-fields
new-requires-clause-fields g c = new_fits c.new_header-header.result c.new_header-header.ensures.new

pub new-requires-clause-native : goal.new-requires-clause-native
new-requires-clause-native g c = new_native c.new_header-header.result c.new_header-header.ensures.new

pub new-requires-clause-table_fits : goal.new-requires-clause-table_fits
new-requires-clause-table_fits g c = (empty_table c.in-Some.space.table _ c.new_header-header.result.avail_size c.in-Some.ensures.table).few

pub new-requires-clause-table_room : goal.new-requires-clause-table_room
new-requires-clause-table_room g c = (empty_table c.in-Some.space.table _ c.new_header-header.result.avail_size c.in-Some.ensures.table).room_is

pub returns-in_err-make_file-clause-frame : goal.returns-in_err-make_file-clause-frame
returns-in_err-make_file-clause-frame g c = within_named (g.V.Vault.view_of c.args.vault.now) (g.V.Vault.view_of c.emptied.new.vault) (g.V.Vault.view_of c.make_file.new.vault) c.args.name.now c.in_ok-file.file.0 c.in_ok-file.ensures.own c.in_ok-file.ensures.frame c.in_err-make_file.ensures.frame.within

pub returns-in_err-make_file-clause-name : goal.returns-in_err-make_file-clause-name
returns-in_err-make_file-clause-name g c = names_own_still (g.V.Vault.view_of c.args.vault.now) (g.V.Vault.view_of c.emptied.new.vault) (g.V.Vault.view_of c.make_file.new.vault) c.args.name.now c.in_ok-file.ensures.name c.in_err-make_file.ensures.frame.within

pub returns-clause-name : goal.returns-clause-name
returns-clause-name g c = names_own_still (g.V.Vault.view_of c.args.vault.now) (g.V.Vault.view_of c.emptied.new.vault) (g.V.Vault.view_of c.make_file.new.vault) c.args.name.now c.in_ok-file.ensures.name c.in_ok-make_file.ensures.frame.within

pub returns-clause-own : goal.returns-clause-own
returns-clause-own g c = rw c.new.ensures c.in_ok-file.ensures.own

pub returns-clause-header : goal.returns-clause-header
returns-clause-header g c = rw c.new.ensures c.new_header-header.ensures.new

pub returns-clause-opened : goal.returns-clause-opened
returns-clause-opened g c =
    rw c.new.ensures
    (record { named = stands_still (g.V.Vault.view_of c.emptied.new.vault) (g.V.Vault.view_of c.make_file.new.vault) c.args.name.now c.in_ok-file.file.0 c.in_ok-make_file.ensures.frame.within c.in_ok-file.ensures.stands; access = refl; whole = refl; cache = refl })

pub returns-clause-fits : goal.returns-clause-fits
returns-clause-fits g c =
    rw c.new.ensures
    (λ whole d x told there.
    (let bytes = made_bytes (g.V.Vault.view_of c.emptied.new.vault) (g.V.Vault.view_of c.make_file.new.vault) c.in_ok-file.file.0 _ c.in_ok-file.ensures.there c.in_ok-file.ensures.empty c.in_ok-make_file.ensures.frame.within c.in_ok-make_file.ensures.made d x told there in
    let made = made_file c.new_header-header.result c.in-Some.space.table x.bytes c.new_header-header.ensures.new c.in-Some.ensures.table bytes in
    record { header = made.header; right = made.right }))

pub returns-clause-bytes : goal.returns-clause-bytes
returns-clause-bytes g c =
    rw c.new.ensures
    (λ d x told there.
    (let bytes = made_bytes (g.V.Vault.view_of c.emptied.new.vault) (g.V.Vault.view_of c.make_file.new.vault) c.in_ok-file.file.0 _ c.in_ok-file.ensures.there c.in_ok-file.ensures.empty c.in_ok-make_file.ensures.frame.within c.in_ok-make_file.ensures.made d x told there in
    let made = made_file c.new_header-header.result c.in-Some.space.table x.bytes c.new_header-header.ensures.new c.in-Some.ensures.table bytes in
    (bytes ∙ ap (λ (k : Format). new_file k c.new_header-header.result.block c.new_header-header.result.dir_bits) c.new_header-header.ensures.format, made.none)))

pub returns-clause-frame : goal.returns-clause-frame
returns-clause-frame g c = within_named (g.V.Vault.view_of c.args.vault.now) (g.V.Vault.view_of c.emptied.new.vault) (g.V.Vault.view_of c.make_file.new.vault) c.args.name.now c.in_ok-file.file.0 c.in_ok-file.ensures.own c.in_ok-file.ensures.frame c.in_ok-make_file.ensures.frame.within

pub returns-clause-cleared : goal.returns-clause-cleared
returns-clause-cleared g c =
    rw c.new.ensures
    (subst (λ (k : Format). IsCleared (g.V.Vault.view_of c.args.vault.now) (g.V.Vault.view_of c.make_file.new.vault) c.args.name.now c.in_ok-file.file.0 (new_file k c.new_header-header.result.block c.new_header-header.result.dir_bits)) c.new_header-header.ensures.format
    (made_cleared (g.V.Vault.view_of c.args.vault.now) (g.V.Vault.view_of c.emptied.new.vault) (g.V.Vault.view_of c.make_file.new.vault) c.args.name.now c.in_ok-file.file.0 _ c.in_ok-file.ensures.cleared c.in_ok-make_file.ensures.frame.within c.in_ok-make_file.ensures.made))

pub returns-in_err-make_file-clause-marks : goal.returns-in_err-make_file-clause-marks
returns-in_err-make_file-clause-marks g c = marks_still (g.V.Vault.view_of c.args.vault.now) (g.V.Vault.view_of c.emptied.new.vault) (g.V.Vault.view_of c.make_file.new.vault) c.args.name.now c.in_ok-file.file.0 c.in_ok-file.ensures.marks c.in_ok-file.ensures.own c.in_err-make_file.ensures.frame

pub returns-clause-marks : goal.returns-clause-marks
returns-clause-marks g c = marks_still (g.V.Vault.view_of c.args.vault.now) (g.V.Vault.view_of c.emptied.new.vault) (g.V.Vault.view_of c.make_file.new.vault) c.args.name.now c.in_ok-file.file.0 c.in_ok-file.ensures.marks c.in_ok-file.ensures.own c.in_ok-make_file.ensures.frame
