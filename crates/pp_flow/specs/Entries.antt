-- An exchange with an origin: a request of this proxy, and its response (RFC 2616, section 8.1.2.2).
use Rattle.std.specs.Prelude.{ℕ, ◌+◌, ◌-◌, ◌≤◌, Bool, true, false, ◌==◌, nat_le, if◌then◌else◌, List, Option, Some, None}
use Rattle.pp_objects.specs.declared.id.ObjectId.{ObjectId}
use Rattle.pp_flow.specs.declared.entry.Aim.{Aim}
use Rattle.pp_flow.specs.declared.entry.Entry.{Entry}
use Rattle.pp_flow.specs.declared.errand.Errand.{Errand}

-- the instance that the body belongs to, the half-open span that is still to come, and whether all of it is waited for, however
-- far ahead
abbrev pub Span : Type 0
Span = ObjectId × ℕ × ℕ × Bool

abbrev pub is_number : ℕ → Entry → Bool
is_number number entry = entry.exchange.number == number

-- it waits for a place
abbrev pub begun_with : ℕ → ℕ → List ℕ → Aim → Errand → List ℕ → Entry
begun_with number client key aim errand text = record {
  exchange = record {
    number = number;
    asker = Some client;
    aim = aim;
    place = None;
    headed = false;
    bound = None;
  };
  errand = errand;
  key = record { items = key };
  text = record { items = text };
}

abbrev pub with_place : Option ℕ → Entry → Entry
with_place place entry = record entry { exchange = record entry.exchange { place = place } }

-- the client's current request asks it
abbrev pub is_of : ℕ → Option ℕ → Bool
is_of client None = false
is_of client (Some asker) = asker == client

abbrev pub is_asked_by : ℕ → Entry → Bool
is_asked_by client entry = is_of client entry.exchange.asker

-- its request left it
abbrev pub nobodys : Entry → Entry
nobodys entry = record entry { exchange = record entry.exchange { asker = None } }

-- its final head came, and its body belongs there
abbrev pub bound_to : Option Span → Entry → Entry
bound_to to entry = record entry { exchange = record entry.exchange { headed = true; bound = to } }

-- the front of what is still to come
abbrev pub moved : ℕ → Option Span → Option Span
moved n None = None
moved n (Some span) = Some (span.0, span.1 + n, span.2, span.3)

abbrev pub moved_by : ℕ → Entry → Entry
moved_by n entry = record entry { exchange = record entry.exchange { bound = moved n entry.exchange.bound } }

-- how many bytes of it are still to come
abbrev pub left_of : Option Span → Option ℕ
left_of None = None
left_of (Some span) = if nat_le span.1 span.2 then Some (span.2 - span.1) else None

abbrev pub to_come : Entry → Option ℕ
to_come entry = left_of entry.exchange.bound

-- it asks this, and so much of it was asked
abbrev pub asking : Errand → Entry → Entry
asking errand entry = record entry { errand = errand }

-- so many bytes of it are still to come
abbrev pub IsInSpan : ℕ → Option Span → Type 0
IsInSpan n None = ⊥
IsInSpan n (Some span) = span.1 + n ≤ span.2

abbrev pub IsToCome : ℕ → Entry → Type 0
IsToCome n entry = IsInSpan n entry.exchange.bound
