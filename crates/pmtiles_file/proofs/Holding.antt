-- Contents that stand in the ended runs of a spool.
use Rattle.std.proofs.Common.{◌≡◌, ◌≢◌, ℕ, zero, suc, ◌+◌, ◌-◌, ◌^◌, ◌<◌, ◌≤◌, ◌==◌, ◌||◌, Bool, true, false, if◌then◌else◌, nat_eq, nat_lt, Option, None, Some, IfSome, List, [], ◌∷◌, ◌++◌, length, get_or, map, slice_index_or, refl, ap, sym, subst, ◌∙◌, arith, append_assoc}
use Rattle.std.specs.Prelude.{option_to_list}
use Rattle.std.specs.List.{concat, list_any}
use Rattle.std.specs.Str.{bytes_eq}
use Rattle.std.proofs.lemmas.Bool.{eqb-true, ltb-true, ltb-false}
use Rattle.std.proofs.lemmas.List.{get_or_append_left, get_or_push, get_or_default, length_push, length-append, append-nil, length-map}
use Rattle.std.proofs.lemmas.List.Folds.{list_any-append}
use Rattle.tb_outside.specs.Spill.{SpillSeen, Runs, closed}
use Rattle.pmtiles_dirs.specs.Contents.{with_content, offset_in}
use Rattle.pmtiles_dirs.proofs.Stretches.{Among, same-bytes, own-bytes, or-left, or-right}
use Rattle.pmtiles_file.specs.declared.stored.Stored.{Stored}
use Rattle.pmtiles_file.specs.Hashes.{hash_of}
use Rattle.pmtiles_file.specs.Spool.{content_in, Stands, AllStand, Finds, with_run, ran}
use Rattle.pmtiles_file.specs.Distinct.{DistinctSeen, Holds, runs_with, HasPlace, StandIn, HasMore, PutAnswers, PlaceAnswers}

abbrev any_stored : Stored
any_stored = record { run = 0; len = 0; offset = 0 }

-- runs behind those of contents
content-behind : (ended more : List (List ℕ)) (s : Stored) → s.run < length ended → content_in (ended ++ more) s ≡ content_in ended s
content-behind ended more s h = get_or_append_left ended more [] s.run h

stands-behind : (ended more : List (List ℕ)) (s : Stored) → Stands ended s → Stands (ended ++ more) s
stands-behind ended more s h = (omega (arith, h.0, length-append ended more), ap length (content-behind ended more s h.0) ∙ h.1)

pub stand-behind : (ended more : List (List ℕ)) (stored : List Stored) → AllStand ended stored → AllStand (ended ++ more) stored
stand-behind ended more stored all n d h = stands-behind ended more (get_or stored n d) (all n d h)

rest-stand : (ended : List (List ℕ)) (s : Stored) (stored : List Stored) → AllStand ended (s ∷ stored) → AllStand ended stored
rest-stand ended s stored all n d h = all (suc n) d (omega (arith, h))

contents-behind : (ended more : List (List ℕ)) (stored : List Stored) → AllStand ended stored → map (content_in (ended ++ more)) stored ≡ map (content_in ended) stored
contents-behind ended more [] all = refl
contents-behind ended more (s ∷ stored) all =
    rw (content-behind ended more s (all 0 s (omega arith)).0, contents-behind ended more stored (rest-stand ended s stored all)) refl

pub holds-behind : (c : DistinctSeen) (ended more contents : List (List ℕ)) → Holds c ended contents → Holds c (ended ++ more) contents
holds-behind c ended more contents h = record {
  stand = stand-behind ended more c.stored h.stand;
  are = contents-behind ended more c.stored h.stand ∙ h.are;
  hashed = h.hashed;
  places = λ n d l. ap (offset_in contents) (content-behind ended more (get_or c.stored n d) (h.stand n d l).0) ∙ h.places n d l;
  all = h.all;
}

-- a content's place among the contents
get-map : (ended : List (List ℕ)) (stored : List Stored) (n : ℕ) (d : Stored) → n < length stored → get_or (map (content_in ended) stored) n [] ≡ content_in ended (get_or stored n d)
get-map ended [] n d h = absurd (omega (arith, h))
get-map ended (s ∷ stored) zero d h = refl
get-map ended (s ∷ stored) (suc n) d h = get-map ended stored n d (omega (arith, h))

pub or-split : (a b : Bool) → (a || b) ≡ true → a ≡ false → b ≡ true
or-split true b h no_a = let no_way : true ≡ false = no_a in absurd cc
or-split false b h no_a = h

among-at : (contents : List (List ℕ)) (n : ℕ) → n < length contents → Among (get_or contents n []) contents
among-at [] n h = absurd (omega (arith, h))
among-at (c ∷ contents) zero h = or-left (bytes_eq c c) (list_any (bytes_eq c) contents) (own-bytes c)
among-at (c ∷ contents) (suc n) h = or-right (bytes_eq (get_or contents n []) c) (list_any (bytes_eq (get_or contents n [])) contents) (among-at contents n (omega (arith, h)))

-- contents that are among others stay so with one more, which is among them too
pub kept-among : (contents : List (List ℕ)) (more bytes : List ℕ) (b : Bool) → Among bytes contents → Among bytes (if b then contents else contents ++ more ∷ [])
kept-among contents more bytes true h = h
kept-among contents more bytes false h = list_any-append (bytes_eq bytes) contents (more ∷ []) ∙ or-left (list_any (bytes_eq bytes) contents) (list_any (bytes_eq bytes) (more ∷ [])) h

pub new-among : (contents : List (List ℕ)) (bytes : List ℕ) (b : Bool) → list_any (bytes_eq bytes) contents ≡ b → Among bytes (if b then contents else contents ++ bytes ∷ [])
new-among contents bytes true h = h
new-among contents bytes false h =
    list_any-append (bytes_eq bytes) contents (bytes ∷ []) ∙ or-right (list_any (bytes_eq bytes) contents) (list_any (bytes_eq bytes) (bytes ∷ [])) (or-left (bytes_eq bytes bytes) false (own-bytes bytes))

-- bytes that are none of the contents
none-among : (contents : List (List ℕ)) (bytes : List ℕ) → ((n : ℕ) → n < length contents → bytes ≢ get_or contents n []) → list_any (bytes_eq bytes) contents ≡ false
none-among [] bytes h = refl
none-among (c ∷ contents) bytes h = both (bytes_eq bytes c) refl (none-among contents bytes (λ n l. h (suc n) (omega (arith, l))))
  where
    both : (a : Bool) → bytes_eq bytes c ≡ a → list_any (bytes_eq bytes) contents ≡ false → (a || list_any (bytes_eq bytes) contents) ≡ false
    both true t rest = absurd (h 0 (omega arith) (same-bytes bytes c t))
    both false t rest = rest

-- the offset of one of the contents stays, whatever comes behind them
pub offset-kept : (contents more : List (List ℕ)) (bytes : List ℕ) → Among bytes contents → offset_in (contents ++ more) bytes ≡ offset_in contents bytes
offset-kept [] more bytes among = let no_way : false ≡ true = among in absurd cc
offset-kept (c ∷ contents) more bytes among = by_test (bytes_eq bytes c) refl (λ rest. offset-kept contents more bytes rest)
  where
    by_test : (b : Bool) → bytes_eq bytes c ≡ b → (Among bytes contents → offset_in (contents ++ more) bytes ≡ offset_in contents bytes)
        → (if b then 0 else length c + offset_in (contents ++ more) bytes) ≡ (if b then 0 else length c + offset_in contents bytes)
    by_test true t later = refl
    by_test false t later = ap (λ n. length c + n) (later (or-split (bytes_eq bytes c) (list_any (bytes_eq bytes) contents) among t))

-- that of another is the length of all
pub offset-new : (contents : List (List ℕ)) (bytes : List ℕ) → list_any (bytes_eq bytes) contents ≡ false → offset_in (contents ++ bytes ∷ []) bytes ≡ length (concat contents)
offset-new [] bytes none = rw (own-bytes bytes) refl
offset-new (c ∷ contents) bytes none = by_test (bytes_eq bytes c) refl (λ rest. offset-new contents bytes rest)
  where
    by_test : (b : Bool) → bytes_eq bytes c ≡ b → (list_any (bytes_eq bytes) contents ≡ false → offset_in (contents ++ bytes ∷ []) bytes ≡ length (concat contents))
        → (if b then 0 else length c + offset_in (contents ++ bytes ∷ []) bytes) ≡ length (c ++ concat contents)
    by_test true t later = let no_way : true ≡ false = sym (ap (λ (b : Bool). b || list_any (bytes_eq bytes) contents) t) ∙ none in absurd cc
    by_test false t later =
        let rest : list_any (bytes_eq bytes) contents ≡ false = sym (ap (λ (b : Bool). b || list_any (bytes_eq bytes) contents) t) ∙ none in
        omega (arith, later rest, length-append c (concat contents))

-- one content more
concat-more : (contents : List (List ℕ)) (bytes : List ℕ) → length (concat (contents ++ bytes ∷ [])) ≡ length (concat contents) + length bytes
concat-more [] bytes = omega (arith, length-append bytes [])
concat-more (c ∷ contents) bytes = omega (arith, length-append c (concat (contents ++ bytes ∷ [])), length-append c (concat contents), concat-more contents bytes)

map-more : {A : Type 0} (f : A → List ℕ) (xs : List A) (x : A) → map f (xs ++ x ∷ []) ≡ map f xs ++ f x ∷ []
map-more f [] x = refl
map-more f (y ∷ xs) x = ap (λ ys. f y ∷ ys) (map-more f xs x)

hashes-more : (contents : List (List ℕ)) (bytes : List ℕ) → map hash_of (contents ++ bytes ∷ []) ≡ map hash_of contents ++ hash_of bytes ∷ []
hashes-more [] bytes = refl
hashes-more (c ∷ contents) bytes = ap (λ hs. hash_of c ∷ hs) (hashes-more contents bytes)

-- each of the contents and of one more
pub each-more : (P : Stored → Type 0) (stored : List Stored) (s : Stored) → ((n : ℕ) (d : Stored) → n < length stored → P (get_or stored n d)) → P s → (n : ℕ) (d : Stored) → n < length (stored ++ s ∷ []) → P (get_or (stored ++ s ∷ []) n d)
each-more P stored s old one n d h = by_place (nat_lt n (length stored)) refl
  where
    by_place : (b : Bool) → nat_lt n (length stored) ≡ b → P (get_or (stored ++ s ∷ []) n d)
    by_place true t = let below : n < length stored = ltb-true n (length stored) t in subst P (sym (get_or_append_left stored (s ∷ []) d n below)) (old n d below)
    by_place false t =
        let place : length stored ≡ n = omega (arith, h, length_push stored s, ltb-false n (length stored) t) in subst P (sym (get_or_push stored s d n place)) one

-- the run of the new content
new-run : (runs : Runs) (bytes : List ℕ) (s : Stored) → s.run ≡ length (closed runs) → content_in (with_run runs bytes).ended s ≡ bytes
new-run runs bytes s is = get_or_push (closed runs) bytes [] s.run (sym is)

ended-behind : (runs : Runs) (bytes : List ℕ) → (with_run runs bytes).ended ≡ runs.ended ++ (option_to_list runs.begun ++ bytes ∷ [])
ended-behind runs bytes = append_assoc runs.ended (option_to_list runs.begun) (bytes ∷ [])

new-stands : (runs : Runs) (bytes : List ℕ) (s : Stored) → s.run ≡ length (closed runs) → s.len ≡ length bytes → Stands (with_run runs bytes).ended s
new-stands runs bytes s is len = (omega (arith, is, length_push (closed runs) bytes), ap length (new-run runs bytes s is) ∙ sym len)

pub stand-more : (stored : List Stored) (s : Stored) (runs : Runs) (bytes : List ℕ) → s.run ≡ length (closed runs) → s.len ≡ length bytes → AllStand runs.ended stored → AllStand (with_run runs bytes).ended (stored ++ s ∷ [])
stand-more stored s runs bytes is len all =
    let old : AllStand (with_run runs bytes).ended stored = subst (λ xs. AllStand xs stored) (sym (ended-behind runs bytes)) (stand-behind runs.ended (option_to_list runs.begun ++ bytes ∷ []) stored all) in
    each-more (Stands (with_run runs bytes).ended) stored s old (new-stands runs bytes s is len)

-- contents with one more, which is none of them
pub holds-more : (old new : DistinctSeen) (runs : Runs) (contents : List (List ℕ)) (bytes : List ℕ) (s : Stored) → Holds old runs.ended contents → list_any (bytes_eq bytes) contents ≡ false
    → HasMore old new (hash_of bytes) (length bytes) s → s.run ≡ length (closed runs) → Holds new (with_run runs bytes).ended (contents ++ bytes ∷ [])
holds-more old new runs contents bytes s h none more is =
    let ended : List (List ℕ) = (with_run runs bytes).ended in
    let kept : Holds old ended contents = subst (λ xs. Holds old xs contents) (sym (ended-behind runs bytes)) (holds-behind old runs.ended (option_to_list runs.begun ++ bytes ∷ []) contents h) in
    let size : length (map (content_in ended) old.stored) ≡ length old.stored = length-map old.stored (content_in ended) in
    let old_places : (n : ℕ) (d : Stored) → n < length old.stored → offset_in (contents ++ bytes ∷ []) (content_in ended (get_or old.stored n d)) ≡ (get_or old.stored n d).offset =
    λ n d l.
    let here : get_or contents n [] ≡ content_in ended (get_or old.stored n d) = ap (λ cs. get_or cs n []) (sym kept.are) ∙ get-map ended old.stored n d l in
    let among : Among (content_in ended (get_or old.stored n d)) contents = subst (λ b. Among b contents) here (among-at contents n (omega (arith, l, size, ap length kept.are))) in
    offset-kept contents (bytes ∷ []) (content_in ended (get_or old.stored n d)) among ∙ kept.places n d l in
    let new_place : offset_in (contents ++ bytes ∷ []) (content_in ended s) ≡ s.offset =
    ap (offset_in (contents ++ bytes ∷ [])) (new-run runs bytes s is) ∙ (offset-new contents bytes none ∙ sym (more.offset ∙ h.all)) in
    record {
      stand = subst (AllStand ended) (sym more.more) (stand-more old.stored s runs bytes is more.len h.stand);
      are = ap (map (content_in ended)) more.more ∙ (map-more (content_in ended) old.stored s ∙ (ap (λ cs. cs ++ content_in ended s ∷ []) kept.are ∙ ap (λ b. contents ++ b ∷ []) (new-run runs bytes s is)));
      hashed = more.hashed ∙ (ap (λ hs. hs ++ hash_of bytes ∷ []) h.hashed ∙ sym (hashes-more contents bytes));
      places = subst (λ (xs : List Stored). (n : ℕ) (d : Stored) → n < length xs → offset_in (contents ++ bytes ∷ []) (content_in ended (get_or xs n d)) ≡ (get_or xs n d).offset) (sym more.more)
          (each-more (λ x. offset_in (contents ++ bytes ∷ []) (content_in ended x) ≡ x.offset) old.stored s old_places new_place);
      all = omega (arith, more.all, h.all, concat-more contents bytes);
    }

-- a content that was found is one of them
pub found-among : (c : DistinctSeen) (ended contents : List (List ℕ)) (bytes : List ℕ) (n : ℕ) (d : Stored) → Holds c ended contents → n < length c.stored → bytes ≡ content_in ended (get_or c.stored n d) → Among bytes contents
found-among c ended contents bytes n d h below same =
    let size : length (map (content_in ended) c.stored) ≡ length c.stored = length-map c.stored (content_in ended) in
    let here : get_or contents n [] ≡ bytes = ap (λ cs. get_or cs n []) (sym h.are) ∙ (get-map ended c.stored n d below ∙ sym same) in
    subst (λ b. Among b contents) here (among-at contents n (omega (arith, below, size, ap length h.are)))

get-hash : (contents : List (List ℕ)) (n : ℕ) → n < length contents → get_or (map hash_of contents) n 0 ≡ hash_of (get_or contents n [])
get-hash [] n h = absurd (omega (arith, h))
get-hash (c ∷ contents) zero h = refl
get-hash (c ∷ contents) (suc n) h = get-hash contents n (omega (arith, h))

-- a content that wasn't found is none of them: an equal one would have its hash
pub not-found-among : (c : DistinctSeen) (ended contents : List (List ℕ)) (bytes : List ℕ) → Holds c ended contents → Finds ended c.hashes c.stored (hash_of bytes) bytes None → list_any (bytes_eq bytes) contents ≡ false
not-found-among c ended contents bytes h finds =
    let size : length (map (content_in ended) c.stored) ≡ length c.stored = length-map c.stored (content_in ended) in
    none-among contents bytes (λ n l same.
    let below : n < length c.stored = omega (arith, l, size, ap length h.are) in
    let here : get_or contents n [] ≡ content_in ended (get_or c.stored n any_stored) = ap (λ cs. get_or cs n []) (sym h.are) ∙ get-map ended c.stored n any_stored below in
    let hash : get_or c.hashes n 0 ≡ hash_of bytes = ap (λ hs. get_or hs n 0) h.hashed ∙ (get-hash contents n l ∙ ap hash_of (sym same)) in
    finds n any_stored below hash (same ∙ here))
