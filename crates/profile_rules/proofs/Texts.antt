-- What the definition says of a text, case by case.
use Rattle.std.proofs.Common.{◌≡◌, ◌<◌, ◌≤◌, ℕ, true, false, Result, Err, List, length}
use Rattle.std.specs.Str.{is_utf8}
use Rattle.std.proofs.lemmas.Bool.{lt-ltb, le-ltb}
use Rattle.toml.specs.Parse.{parse_document}
use Rattle.profile_rules.specs.declared.fault.ProfileWhy.TheVariants as reasons
use Rattle.profile_rules.specs.declared.parts.Parts.{Parts}
use Rattle.profile_rules.specs.Faults.{Fault}
use Rattle.profile_rules.specs.Profile.{top_spot, parts_in, profile_of}

abbrev refused : Fault → Result Parts Fault
refused fault = Err fault

pub too_long : (text : List ℕ) → 1048576 < length text → profile_of text ≡ refused (top_spot, reasons.Long)
unfolding profile_of
too_long text h = rw (lt-ltb 1048576 (length text) h)

pub no_text : (text : List ℕ) → length text ≤ 1048576 → is_utf8 text ≡ false → profile_of text ≡ refused (top_spot, reasons.Toml)
unfolding profile_of
no_text text h e = rw (le-ltb 1048576 (length text) h, e)

pub a_text : (text : List ℕ) → length text ≤ 1048576 → is_utf8 text ≡ true → profile_of text ≡ parts_in (parse_document text)
unfolding profile_of
a_text text h e = rw (le-ltb 1048576 (length text) h, e)
