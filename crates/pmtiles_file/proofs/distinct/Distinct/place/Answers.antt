use Rattle.std.proofs.Common.{◌≡◌, ◌<◌, ℕ, Option, None, Some, IfSome, Ok, List, length, ap, sym, subst}
use Rattle.pmtiles_file.specs.declared.stored.Stored.{Stored}
use Rattle.pmtiles_file.specs.Spool.{Finds}
use Rattle.pmtiles_file.specs.Distinct.{DistinctSeen, PlaceAnswers}
use Rattle.pmtiles_file.proofs.Placing.{place-found, place-new}
use Rattle.pmtiles_file.proofs.distinct.Distinct.place.Goals as goal

pub returns-in-Ok-Some : goal.returns-in-Ok-Some
returns-in-Ok-Some g c =
    let i = c.self.inside in
    let d : DistinctSeen = record { hashes = i.index; stored = i.stored.items; end = i.end } in
    let spool = g.S.Spill.seen c.args.spool.now in
    let after = g.S.Spill.seen c.find.new.spool in
    let n : ℕ = c.in-Ok-Some.number in
    let below : n < length i.stored.items = subst (λ (xs : List Stored). n < length xs) c.deref.ensures.value (subst (λ (f : Option ℕ). IfSome f (λ k. k < length c.deref.result.now)) c.in-Ok-Some.field-0-is c.in-Ok-Some.ensures.number) in
    let finds = subst (λ (xs : List Stored). IfSome spool.runs (λ runs. Finds runs.ended i.index xs c.hash_of-hash.result c.args.bytes.now (Some n))) c.deref.ensures.value
    (subst (λ (f : Option ℕ). IfSome spool.runs (λ runs. Finds runs.ended i.index c.deref.result.now c.hash_of-hash.result c.args.bytes.now f)) c.in-Ok-Some.field-0-is c.in-Ok-Some.ensures.told) in
    subst (λ (x : DistinctSeen). PlaceAnswers x d c.args.bytes.now spool after (Ok c.index.result.now)) c.self.view_is
    (subst (λ (s : Stored). PlaceAnswers d d c.args.bytes.now spool after (Ok s)) (sym c.index.ensures)
    (place-found d (length i.room.items) c.args.bytes.now spool after n c.index.result.now c.hash_of-hash.result c.self.invariant below finds c.in-Ok-Some.ensures.reads.runs c.in-Ok-Some.ensures.reads.counts))

pub returns-in-Ok-None : goal.returns-in-Ok-None
returns-in-Ok-None g c =
    let i = c.self.inside in
    let d : DistinctSeen = record { hashes = i.index; stored = i.stored.items; end = i.end } in
    let spool = g.S.Spill.seen c.args.spool.now in
    let mid = g.S.Spill.seen c.find.new.spool in
    let after = g.S.Spill.seen c.put.new.spool in
    let finds = subst (λ (xs : List Stored). IfSome spool.runs (λ runs. Finds runs.ended i.index xs c.hash_of-hash.result c.args.bytes.now None)) c.deref.ensures.value
    (subst (λ (f : Option ℕ). IfSome spool.runs (λ runs. Finds runs.ended i.index c.deref.result.now c.hash_of-hash.result c.args.bytes.now f)) c.in-Ok-None.field-0-is c.in-Ok-None.ensures.told) in
    subst (λ (x : DistinctSeen). PlaceAnswers x c.put.new.self c.args.bytes.now spool after c.put.result) c.self.view_is
    (place-new d c.put.new.self c.args.bytes.now spool mid after c.hash_of-hash.result c.put.result c.hash_of-hash.ensures c.requires.some c.requires.short finds c.in-Ok-None.ensures.reads.runs c.in-Ok-None.ensures.reads.counts c.put.ensures)
