-- A path that is begun, and those that its edges are paths_of to.
use Rattle.std.proofs.Common.{◌≡◌, Bool, true, false, cond, List, [], ◌∷◌, ◌++◌, append_assoc, append-nil, map, length, nat_lt, refl, sym, ap, ◌∙◌}
use Rattle.tb_types.specs.declared.location.Grid.{Grid}
use Rattle.strip_clip.specs.Lines.{leading}
use Rattle.strip_clip.specs.Cleaning.{distinct, clean_paths}
use Rattle.strip_clip.proofs.Paths.{onto, onto-leading, onto-cons}
use Rattle.tile_clip.specs.declared.edge.Edge.{Edge}
use Rattle.tile_clip.specs.Outlines.{paths_of}

clean_one : (b : Bool) (path : List Grid) (left : List (List Grid)) → cond b left (path ∷ left) ≡ cond b [] (path ∷ []) ++ left
clean_one true path left = refl
clean_one false path left = refl

clean-cons : (path : List Grid) (paths : List (List Grid)) → clean_paths (path ∷ paths) ≡ clean_paths (path ∷ []) ++ clean_paths paths
clean-cons path paths = clean_one (nat_lt (length (distinct path)) 2) (distinct path) (clean_paths paths)

module _ (f : Grid → Grid) where
  abbrev pub moved : List Edge → List (List Grid)
  moved es = map (map f) (paths_of es)

  moved-leading : (p : Grid) (paths : List (List Grid)) → map (map f) (leading p paths) ≡ leading (f p) (map (map f) paths)
  moved-leading p [] = refl
  moved-leading p (path ∷ paths) = refl

  -- one edge more
  pub joins : (e : Edge) (es : List Edge) (left left' whole : List (List Grid)) (path path' : List Grid) (b : Bool) → e.last ≡ b → path' ≡ cond b [] (path ++ f e.from ∷ []) → left' ≡ cond b (left ++ clean_paths (((path ++ f e.from ∷ []) ++ f e.to ∷ []) ∷ [])) left → left ++ clean_paths (onto path (moved (e ∷ es))) ≡ whole → left' ++ clean_paths (onto path' (moved es)) ≡ whole
  joins e es left left' whole path path' true is begun added told =
      let ended = (path ++ f e.from ∷ []) ++ f e.to ∷ [] in
      ap (λ xs. xs ++ clean_paths (onto path' (moved es))) added ∙ ap (λ xs. (left ++ clean_paths (ended ∷ [])) ++ clean_paths (onto xs (moved es))) begun ∙ append_assoc left (clean_paths (ended ∷ [])) (clean_paths (moved es)) ∙ ap (λ xs. left ++ xs) (sym (clean-cons ended (moved es)) ∙ ap (λ xs. clean_paths (xs ∷ moved es)) (append_assoc path (f e.from ∷ []) (f e.to ∷ [])) ∙ sym (ap clean_paths (onto-cons path (f e.to ∷ []) (f e.from) (moved es)))) ∙ sym (ap (λ b. left ++ clean_paths (onto path (map (map f) (cond b ((e.from ∷ e.to ∷ []) ∷ paths_of es) (leading e.from (paths_of es)))))) is) ∙ told
  joins e es left left' whole path path' false is begun added told =
      ap (λ xs. xs ++ clean_paths (onto path' (moved es))) added ∙ ap (λ xs. left ++ clean_paths (onto xs (moved es))) begun ∙ ap (λ xs. left ++ clean_paths xs) (sym (onto-leading path (f e.from) (moved es)) ∙ ap (onto path) (sym (moved-leading e.from (paths_of es)))) ∙ sym (ap (λ b. left ++ clean_paths (onto path (map (map f) (cond b ((e.from ∷ e.to ∷ []) ∷ paths_of es) (leading e.from (paths_of es)))))) is) ∙ told

  -- no edge more
  pub joined_all : (left whole : List (List Grid)) → left ++ clean_paths (onto [] (moved [])) ≡ whole → left ≡ whole
  joined_all left whole told = sym (append-nil left) ∙ told
