-- The dump of records in each form.
use Rattle.std.specs.Prelude.{ℕ, List, []}
use Rattle.gd_base.specs.declared.errors.Format.{Format}
use Rattle.gd_format.specs.HeaderFault.{header_of}
use Rattle.gd_format.specs.File.{front_of, records}
use Rattle.gd_dump.specs.Ascii.{ascii_text, end_text, head_text, pair_text, pairs_text}
use Rattle.gd_dump.specs.Binary.{binary_head, binary_pair, binary_pairs, binary_text}
use Rattle.gd_words.specs.declared.dump.Form.{Form}
use Rattle.gd_words.specs.declared.dump.Form.TheVariants.{Ascii, Binary}
use Rattle.gd_dumping.specs.Words.{Text}

-- a binary dump says nothing of the file's name and format
abbrev pub form_text : Form → List (Text × Text) → Text → Format → Text
form_text Ascii pairs name format = ascii_text pairs name format
form_text Binary pairs name format = binary_text pairs

-- the dump of a readable file, in the file's own format
abbrev pub dump_of : Form → Text → List ℕ → Text
dump_of form name file = form_text form (records file) name (header_of (front_of file)).format

-- ---- the parts of a dump

abbrev pub head_in : Form → Format → Text → Text
head_in Ascii format name = head_text format name
head_in Binary format name = binary_head

abbrev pub pair_in : Form → (key value : Text) → Text
pair_in Ascii key value = pair_text key value
pair_in Binary key value = binary_pair key value

abbrev pub pairs_in : Form → List (Text × Text) → Text
pairs_in Ascii pairs = pairs_text pairs
pairs_in Binary pairs = binary_pairs pairs

-- a binary dump has no count
abbrev pub end_in : Form → ℕ → Text
end_in Ascii count = end_text count
end_in Binary count = []
