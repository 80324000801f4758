-- Entries with one more, of which the last may grow.
use Rattle.std.proofs.Common.{◌≡◌, ℕ, ◌+◌, ◌-◌, ◌^◌, ◌<◌, ◌≤◌, Bool, true, false, if◌then◌else◌, Option, None, Some, List, [], ◌∷◌, ◌++◌, refl, ap, sym, subst, ◌∙◌, arith, append_assoc}
use Rattle.pmtiles_dirs.specs.declared.entry.DirEntry.{DirEntry}
use Rattle.pmtiles_dirs.specs.Directory.{IsEntry, IsBehind, AreEntries, IsDirectory}
use Rattle.pmtiles_file.specs.declared.stored.Stored.{Stored}
use Rattle.pmtiles_file.specs.Distinct.{CanBeNamed}
use Rattle.pmtiles_file.specs.Listed.{next_behind, entry_at, is_followed, one_longer, with_entry}

pub with_entry-last : (closed : List DirEntry) (last e : DirEntry) → with_entry (closed ++ last ∷ []) e ≡ closed ++ (if is_followed last e then one_longer last ∷ [] else last ∷ e ∷ [])
with_entry-last [] last e = refl
with_entry-last (one ∷ []) last e = refl
with_entry-last (one ∷ next ∷ closed) last e = ap (λ entries. one ∷ entries) (with_entry-last (next ∷ closed) last e)

pub next-last : (next : ℕ) (closed : List DirEntry) (last : DirEntry) → next_behind next (closed ++ last ∷ []) ≡ last.id + last.run
next-last next [] last = refl
next-last next (e ∷ closed) last = next-last (e.id + e.run) closed last

pub entry-fits : (id : ℕ) (s : Stored) → id < 2 ^ 64 → CanBeNamed s → IsEntry (entry_at id s)
entry-fits id s fits named = record { run = omega arith; some = named.some; len = named.len; last = omega (arith, fits); end = named.fits }

push-are : (before : Option DirEntry) (closed : List DirEntry) (last e : DirEntry) → AreEntries before (closed ++ last ∷ []) → IsEntry e → last.id < e.id → AreEntries before ((closed ++ last ∷ []) ++ e ∷ [])
push-are before [] last e are is above = (are.0, are.1, (is, above, tt))
push-are before (one ∷ closed) last e are is above = (are.0, are.1, push-are (Some one) closed last e are.2 is above)

same-behind : (before : Option DirEntry) (last longer : DirEntry) → longer.id ≡ last.id → IsBehind before last → IsBehind before longer
same-behind None last longer same h = tt
same-behind (Some before) last longer same h = omega (arith, same, h)

longer-are : (before : Option DirEntry) (closed : List DirEntry) (last longer : DirEntry) → AreEntries before (closed ++ last ∷ []) → IsEntry longer → longer.id ≡ last.id → AreEntries before (closed ++ longer ∷ [])
longer-are before [] last longer are is same = (is, same-behind before last longer same are.1, tt)
longer-are before (one ∷ closed) last longer are is same = (are.0, are.1, longer-are (Some one) closed last longer are.2 is same)

last-is : (before : Option DirEntry) (closed : List DirEntry) (last : DirEntry) → AreEntries before (closed ++ last ∷ []) → IsEntry last
last-is before [] last are = are.0
last-is before (one ∷ closed) last are = last-is (Some one) closed last are.2

-- the invariant with an entry more
pub pushed-listed : (closed : List DirEntry) (last : DirEntry) (id : ℕ) (s : Stored) → id < 2 ^ 64 → CanBeNamed s → IsDirectory (closed ++ last ∷ []) → 1 ≤ last.run → next_behind 0 (closed ++ last ∷ []) ≤ id
    → IsDirectory ((closed ++ last ∷ []) ++ entry_at id s ∷ []) × (1 ≤ (entry_at id s).run)
pushed-listed closed last id s fits named are some next =
    (push-are None closed last (entry_at id s) are (entry-fits id s fits named) (omega (arith, some, next, next-last 0 closed last)), omega arith)

-- and with a longer last one
pub grown-listed : (closed : List DirEntry) (last : DirEntry) (id : ℕ) → id < 2 ^ 64 → IsDirectory (closed ++ last ∷ []) → 1 ≤ last.run → last.run + 1 < 2 ^ 32 → id ≡ last.id + last.run
    → IsDirectory (closed ++ one_longer last ∷ []) × (1 ≤ (one_longer last).run)
grown-listed closed last id fits are some room follows =
    let is : IsEntry last = last-is None closed last are in
    (longer-are None closed last (one_longer last) are (record { run = room; some = is.some; len = is.len; last = omega (arith, fits, follows); end = is.end }) refl, omega (arith, some))

-- the entries of each case
pub first-told : (closed : List DirEntry) (e : DirEntry) → closed ≡ [] → closed ++ e ∷ [] ≡ with_entry (closed ++ []) e
first-told closed e none = rw none refl

pub grown-told : (closed : List DirEntry) (last e : DirEntry) (b : Bool) → b ≡ is_followed last e → b ≡ true → closed ++ one_longer last ∷ [] ≡ with_entry (closed ++ last ∷ []) e
grown-told closed last e b is yes_is =
    sym (with_entry-last closed last e ∙ ap (λ (t : Bool). closed ++ (if t then one_longer last ∷ [] else last ∷ e ∷ [])) (sym is ∙ yes_is))

pub pushed-told : (closed : List DirEntry) (last e : DirEntry) (b : Bool) → b ≡ is_followed last e → b ≡ false → (closed ++ last ∷ []) ++ e ∷ [] ≡ with_entry (closed ++ last ∷ []) e
pushed-told closed last e b is no_is =
    append_assoc closed (last ∷ []) (e ∷ []) ∙ sym (with_entry-last closed last e ∙ ap (λ (t : Bool). closed ++ (if t then one_longer last ∷ [] else last ∷ e ∷ [])) (sym is ∙ no_is))
