use Rattle.std.proofs.Common.{◌≡◌, ◌<◌, ◌≤◌, ◌^◌, length, drop}
use Rattle.std.specs.Str.{all_ascii_digits}
use Rattle.profile_rules.specs.Features.{number_from}
use Rattle.profile_rules.proofs.value.digits_value.Given as goal

abbrev pub invariant-loop-c : goal.invariant-loop-c
invariant-loop-c l = record {
  some : 0 < length l.text;
  few : length l.text ≤ 18;
  small : l.n < 10 ^ l.c-index;
  digits : all_ascii_digits (drop l.c-index l.text) ≡ all_ascii_digits l.text;
  told : number_from l.n (drop l.c-index l.text) ≡ number_from 0 l.text;
}
