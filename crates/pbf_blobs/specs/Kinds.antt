-- What the type in the header of a frame makes of its block.
use Rattle.std.specs.Prelude.{Bool, true, false}
use Rattle.pbf_blobs.specs.declared.block.BlockKind.{BlockKind}
use Rattle.pbf_blobs.specs.declared.block.BlockKind.TheVariants as kinds

abbrev pub is_header : BlockKind → Bool
is_header kinds.Header = true
is_header kinds.Elements = false
is_header kinds.Other = false

abbrev pub is_elements : BlockKind → Bool
is_elements kinds.Elements = true
is_elements kinds.Header = false
is_elements kinds.Other = false
