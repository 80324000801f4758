-- The box of an extract.
use Rattle.std.specs.Prelude.{Option, None, List, [], ◌∷◌, flat_map, slice_get, unwrap_or}
use Rattle.tb_types.specs.declared.location.Bounds.{Bounds}
use Rattle.tile_model.specs.Contents.{Content, header, elements, unread}

-- the box of a header
abbrev pub boxes_in : Content → List (Option Bounds)
boxes_in (header box) = box ∷ []
boxes_in (elements number block) = []
boxes_in unread = []

-- the box of the first header, if that has a valid one
abbrev pub first_box : List Content → Option Bounds
first_box contents = unwrap_or (slice_get (flat_map boxes_in contents) 0) None
