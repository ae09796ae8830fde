-- The row of an exchange's key, and what a response of a version does to it (RFC 2616, sections 10.3.5 and 13.5.4; RFC 7233, section
-- 4.1).
use Rattle.std.specs.Prelude.{ℕ, ◌≡◌, Bool, true, false, ◌==◌, ◌&&◌, not, is_some, bytes_eq, codes, List, Option, Some, None, IfSome, option_and_then}
use Rattle.pp_cache.specs.Memory.{Memory, with_outdated, with_row}
use Rattle.pp_cache.specs.Notes.{noted_by, unnoted}
use Rattle.pp_flow.specs.Changes.{Exchanges, entry_of}
use Rattle.pp_flow.specs.Entries.{Span}
use Rattle.pp_flow.specs.declared.entry.Aim.{Aim}
use Rattle.pp_flow.specs.declared.entry.Exchange.{Exchange}
use Rattle.pp_flow.specs.declared.errand.Errand.{Errand}
use Rattle.pp_flow.specs.declared.errand.Kind.{Kind}
use Rattle.pp_fresh.specs.Age.{times_of}
use Rattle.pp_fresh.specs.declared.aging.Times.{Times}
use Rattle.pp_head.specs.Response.{Response}
use Rattle.pp_objects.specs.Changes.{changed_in, marked, refreshed}
use Rattle.pp_objects.specs.Instances.{fields_at, in_slot, is_there}
use Rattle.pp_objects.specs.Kept.{has_room}
use Rattle.pp_objects.specs.declared.id.ObjectId.{ObjectId}
use Rattle.pp_seats.specs.declared.seat.Brought.TheVariants.{Joins, Refused}
use Rattle.pp_text.specs.Fields.{Field, has_field}
use Rattle.pp_valid.specs.declared.version.Version.{Version}
use Rattle.pp_world.specs.declared.access.Source.{Source}
use Rattle.pp_world.specs.declared.access.Source.TheVariants.{Fetched, Checked}
use Rattle.pp_state.specs.Accounts.{brought_by}
use Rattle.pp_state.specs.Astray.{astray}
use Rattle.pp_answers.specs.Answers.{not_shared}
use Rattle.pp_state.specs.Ends.{Parts, all_decided_anew, bound_by, cleared_row, made_useless, told_to}
use Rattle.pp_answers.specs.Heads.{ignores_range, is_full_answer, told_unchanged}
use Rattle.pp_state.specs.Keys.{key_of}
use Rattle.pp_answers.specs.OwnHeads.{span_to_come}
use Rattle.pp_state.specs.Pins.{with_room}
use Rattle.pp_answers.specs.declared.rows.Unchanged.{Unchanged}
use Rattle.pp_answers.specs.declared.rows.Unchanged.TheVariants.{NotShared, OfAnother, OfRow, OfNothing}
use Rattle.pp_state.specs.declared.state.State.{State}
use Rattle.pp_state.specs.Known.{row_for}

-- ---- the row of the exchange's key

-- what it brings belongs to an instance
abbrev pub is_bound : ℕ → Exchanges → Bool
is_bound number flow = is_some (option_and_then (λ x. x.exchange.bound) (entry_of number flow))

-- ---- a response of its version

abbrev pub is_same_version : Version → Version → Bool
is_same_version v known = bytes_eq v.tag known.tag && (v.length == known.length)

-- "An implementation MUST NOT combine" parts of two versions
abbrev pub may_join : Aim → Kind → Response → Version → Version → Bool
may_join aim kind head v known = is_same_version v known && not (is_full_answer aim head.status kind known)

abbrev pub times_for : Errand → Response → ℕ → Times
times_for errand head clock = times_of head.fields errand.requested clock errand.allows_guess

-- what it would take over has room in the row
abbrev pub may_refresh : ObjectId → List Field → Times → Memory → Bool
may_refresh id fields times m = is_there id m.instances && has_room (fields_at id.slot m.instances) fields times

-- the row takes over what changes with each response, and is the most recently used
abbrev pub refreshed_at : ObjectId → List Field → Times → Memory → Memory
refreshed_at id fields times m = record m { instances = marked id.slot (changed_in id.slot (refreshed fields times) m.instances) }

abbrev pub in_memory : (Memory → Memory) → Parts → Parts
in_memory f p = record p { cache = f p.cache }

-- what the operator's log is told
abbrev pub accounted : Exchange → Source → Parts → Parts
accounted e source p = record p { seats = brought_by e.aim e source p.seats }

-- the body belongs to an instance, and so does what its request is told
abbrev pub joining : Exchange → Span → Source → Bool → Parts → Parts
joining e span source plain p = told_to e (Joins span.0 plain) (accounted e source (bound_by e.number (Some span) p))

abbrev pub span_for : Errand → Response → Version → ObjectId → Span
span_for errand head v id = (id, (span_to_come head v).0, (span_to_come head v).1, ignores_range errand.kind head.status v)

-- its body belongs to the row of its key
abbrev pub settled_on : Exchange → Errand → Response → Version → ObjectId → Parts → Parts
settled_on e errand head v id p = joining e (span_for errand head v id) Fetched (not (has_field (codes "age") head.fields)) p

abbrev pub renewed : Exchange → Errand → Response → Version → ObjectId → ℕ → Parts → Parts
renewed e errand head v id clock p = elim (may_refresh id head.fields (times_for errand head clock) p.cache) [
  | true ↦ settled_on e errand head v id (in_memory (refreshed_at id head.fields (times_for errand head clock)) p)
  | false ↦ made_useless e p
]

-- ---- a 304 of its version: nothing of a body comes

abbrev pub nothing_of : ObjectId → Span
nothing_of id = (id, 0, 0, false)

abbrev pub refreshed_row : Exchange → Errand → Response → ObjectId → ℕ → Parts → Parts
refreshed_row e errand head id clock p = elim (may_refresh id head.fields (times_for errand head clock) p.cache) [
  | true ↦ joining e (nothing_of id) Checked false (in_memory (refreshed_at id head.fields (times_for errand head clock)) p)
  | false ↦ made_useless e p
]

-- "If a 304 response indicates an entity not currently cached, then the cache MUST disregard the response"
abbrev pub not_modified_as : Exchange → Errand → Response → ℕ → Unchanged → Parts → Parts
not_modified_as e errand head clock NotShared p = not_shared e errand p
not_modified_as e errand head clock OfAnother p = made_useless e (cleared_row e.number p)
not_modified_as e errand head clock (OfRow id) p = refreshed_row e errand head id clock p
not_modified_as e errand head clock OfNothing p = made_useless e p

abbrev pub not_modified : Exchange → Errand → Response → ℕ → Parts → Parts
not_modified e errand head clock p = not_modified_as e errand head clock (told_unchanged head.fields errand.kind (row_for e.number p)) p

-- ---- a new row

-- who waited for the one that memory was refused for is decided again
abbrev pub not_refused : List ℕ → Parts → Parts
not_refused key p = record p { refused = unnoted key p.refused; seats = all_decided_anew key p.refused p.seats }

abbrev pub made_row : Exchange → Errand → Response → Version → ℕ → List ℕ → ObjectId → Parts → Parts
made_row e errand head v clock key id p =
    settled_on e errand head v id (not_refused key (in_memory (λ m. with_outdated key (with_row id key v head.fields (times_for errand head clock) m)) p))

-- memory was refused for it: its request is refused, and this life goes astray
abbrev pub refusing_key : Option (List ℕ) → Parts → Parts
refusing_key None p = p
refusing_key (Some key) p = record p { refused = noted_by key p.refused }

abbrev pub refusing : ℕ → Parts → Parts
refusing number p = refusing_key (key_of number p.flow) p

abbrev pub refused_row : Exchange → Parts → Parts
refused_row e p = astray (told_to e Refused (bound_by e.number None (refusing e.number (cleared_row e.number p))))

-- its slot was free, and its life is the next
abbrev pub IsNew : Option ObjectId → Memory → Type 0
IsNew id m = IfSome id (λ i. (in_slot i.slot m.instances ≡ None) × (i.life ≡ m.lives))

abbrev pub row_or_none : Exchange → Errand → Response → Version → ℕ → List ℕ → Option ObjectId → Parts → Parts
row_or_none e errand head v clock key None p = refused_row e p
row_or_none e errand head v clock key (Some id) p = made_row e errand head v clock key id p

-- with a life where memory is not refused for it
pub record MakesRow (e : Exchange) (errand : Errand) (head : Response) (v : Version) (clock : ℕ) (key : List ℕ) (old new : Parts) : Type 0 where
  pub made : Option ObjectId
  pub is_new : IsNew made old.cache
  pub becomes : new ≡ row_or_none e errand head v clock key made old

abbrev pub MakesRowOf : Exchange → Errand → Response → Version → ℕ → Option (List ℕ) → Parts → Parts → Type 0
MakesRowOf e errand head v clock None old new = new ≡ old
MakesRowOf e errand head v clock (Some key) old new = MakesRow e errand head v clock key old new

-- ---- both: another version makes a new row, in the place of the former one, whose room it takes

abbrev pub SettlesRow : Exchange → Errand → Response → Version → ℕ → Bool → ObjectId → Parts → Parts → Type 0
SettlesRow e errand head v clock true id old new = new ≡ renewed e errand head v id clock old
SettlesRow e errand head v clock false id old new = MakesRowOf e errand head v clock (key_of e.number old.flow) old new

-- by the row that stands
abbrev pub Settles : Exchange → Errand → Response → Version → ℕ → Option (ObjectId × Version) → Parts → Parts → Type 0
Settles e errand head v clock None old new = MakesRowOf e errand head v clock (key_of e.number old.flow) old new
Settles e errand head v clock (Some row) old new = SettlesRow e errand head v clock (may_join e.aim errand.kind head v row.1) row.0 old new

-- the first row of its key needs room
abbrev pub with_room_for : Option (ObjectId × Version) → State → State
with_room_for None s = with_room s
with_room_for (Some row) s = s
