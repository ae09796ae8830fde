-- A row that is read is as it is read back: its names are in lower case, the time of its request is that of the response, and
-- no lifetime of it is guessed.
use Rattle.std.proofs.Common.{◌≡◌, ℕ, Bool, true, false, if◌then◌else◌, List, map, take, length, refl, sym, ◌∙◌, ap, subst, Option, Some, None}
use Rattle.std.specs.Prelude.{◌-◌, ◌+◌, nat_lt, option_map, option_and_then}
use Rattle.pp_text.specs.Fields.{Field, field_at}
use Rattle.pp_text.specs.Numbers.{number_of}
use Rattle.pp_fresh.specs.declared.aging.Times.{Times}
use Rattle.pp_head.specs.Read.{Read, Whole, TooLong, Bad, More}
use Rattle.pp_head.specs.Response.{Response, response_at}
use Rattle.pp_valid.specs.TagStates.{tag_of}
use Rattle.pp_valid.specs.Versions.{strong_part}
use Rattle.pp_entry.specs.Entries.{Own, Row, is_sized, is_spelled, kept_in, own_at, own_in, own_with, row_among, row_at, row_from, row_if_spelled, row_of, row_with}
use Rattle.pp_entry.specs.Fields.{are_allowed, lowered}
use Rattle.pp_entry.specs.Spelling.{as_read, text_of}
use Rattle.pp_entry.specs.Texts.{padded}
use Rattle.pp_entry.proofs.AnyCase.{lowered-lowered}
use Rattle.pp_entry.proofs.RoundTrip.{one-spelling, times-same}

record IsPlain (times : Times) : Type 0 where
  request : times.request ≡ times.response
  no_guess : times.may_guess ≡ false

own-plain : (key : List ℕ) (count response initial n : ℕ) (own : Own) → own_with key count response initial n ≡ Some own → IsPlain own.times
own-plain key count response initial n own found = by (is_sized n) found
  where
    given : Own
    given = record { key = key; times = record { request = response; response = response; initial = initial; may_guess = false }; length = n; count = count }

    by : (b : Bool) → (if b then Some given else None) ≡ Some own → IsPlain own.times
    by true found = let e : given ≡ own = cc found in subst (λ (o : Own). IsPlain o.times) e (record { request = refl; no_guess = refl })
    by false found = absurd (cc found)

at-plain : (fields : List Field) (count : ℕ) (own : Own) → own_at fields count ≡ Some own → IsPlain own.times
at-plain fields count own found = by (number_of (field_at fields (count + 1)).1) (number_of (field_at fields (count + 2)).1) (number_of (field_at fields (count + 3)).1) found
  where
    by : (a b c : Option ℕ) → option_and_then (λ response. option_and_then (λ initial. option_and_then (own_with (field_at fields count).1 count response initial) c) b) a ≡ Some own → IsPlain own.times
    by (Some response) (Some initial) (Some n) found = own-plain (field_at fields count).1 count response initial n own found
    by (Some response) (Some initial) None found = absurd (cc found)
    by (Some response) None c found = absurd (cc found)
    by None b c found = absurd (cc found)

in-plain : (fields : List Field) (own : Own) → own_in fields ≡ Some own → IsPlain own.times
in-plain fields own found = by (nat_lt (length fields) 5) found
  where
    by : (b : Bool) → (if b then None else own_at fields (length fields - 5)) ≡ Some own → IsPlain own.times
    by true found = absurd (cc found)
    by false found = at-plain fields (length fields - 5) own found

row-alike : (own : Own) (kept : List Field) (row : Row) → IsPlain own.times → map lowered kept ≡ kept → row_of own kept ≡ Some row → as_read row ≡ row
row-alike own kept row plain low found = by (are_allowed kept own.times.response) (strong_part (tag_of kept)) found
  where
    alike : (tag : List ℕ) → as_read (row_with own kept tag) ≡ row_with own kept tag
    alike tag =
        ap (λ (fs : List Field). let r : Row = record { key = own.key; version = record { tag = tag; length = own.length }; fields = fs; times = record { request = own.times.response; response = own.times.response; initial = own.times.initial; may_guess = false } } in r) low
        ∙ ap (λ (t : Times). let r : Row = record { key = own.key; version = record { tag = tag; length = own.length }; fields = kept; times = t } in r) (times-same own.times plain.request plain.no_guess)

    by : (a : Bool) (t : Option (List ℕ)) → (if a then option_map (row_with own kept) t else None) ≡ Some row → as_read row ≡ row
    by true (Some tag) found = let e : row_with own kept tag ≡ row = cc found in sym (ap as_read e) ∙ alike tag ∙ e
    by true None found = absurd (cc found)
    by false t found = absurd (cc found)

among-alike : (block : List ℕ) (fields : List Field) (row : Row) → row_among block fields ≡ Some row → as_read row ≡ row
among-alike block fields row found = by (own_in fields) refl found
  where
    spelled : (own : Own) → IsPlain own.times → (b : Bool) → (if b then row_of own (kept_in own fields) else None) ≡ Some row → as_read row ≡ row
    spelled own plain true found = row-alike own (kept_in own fields) row plain (lowered-lowered (take own.count fields)) found
    spelled own plain false found = absurd (cc found)

    by : (o : Option Own) → own_in fields ≡ o → option_and_then (λ own. row_if_spelled block own (kept_in own fields)) o ≡ Some row → as_read row ≡ row
    by None is found = absurd (cc found)
    by (Some own) is found = spelled own (in-plain fields own is) (is_spelled block own (kept_in own fields)) found

from-alike : (block : List ℕ) (state : Read Response) (row : Row) → row_from block state ≡ Some row → as_read row ≡ row
from-alike block (Whole head) row found = among-alike block head.fields row found
from-alike block TooLong row found = absurd (cc found)
from-alike block Bad row found = absurd (cc found)
from-alike block More row found = absurd (cc found)

pub read-alike : (block : List ℕ) (row : Row) → row_at block ≡ Some row → as_read row ≡ row
unfolding row_at
read-alike block row found = from-alike block (response_at block) row found

-- so what was read is read again from how it is written
pub read-again : (block : List ℕ) (row : Row) → row_at block ≡ Some row → row_at (padded (text_of row)) ≡ Some (as_read row)
read-again block row found = ap row_at (sym (one-spelling block row found)) ∙ found ∙ ap (λ (r : Row). Some r) (sym (read-alike block row found))
