-- What becomes of the exchanges in each call.
use Rattle.std.specs.Prelude.{ℕ, suc, Bool, true, false, ◌==◌, nat_lt, if◌then◌else◌, List, [], ◌∷◌, ◌++◌, map, filter, Option, Some, None}
use Rattle.std.specs.List.{find, list_any}
use Rattle.pp_flow.specs.declared.entry.Entry.{Entry}
use Rattle.pp_flow.specs.declared.errand.Errand.{Errand}
use Rattle.pp_flow.specs.Entries.{asking, is_number, with_place}

-- those without a place, in the order of their beginnings; those with one, in the order in which they got it; and how
-- many were begun
pub record Exchanges : Type 0 where
  pub waiting : List Entry
  pub placed : List Entry
  pub begun : ℕ

-- the exchange with this number is changed; no two have one number
abbrev pub changed : ℕ → (Entry → Entry) → List Entry → List Entry
changed number change [] = []
changed number change (e ∷ es) = if is_number number e then change e ∷ es else e ∷ changed number change es

-- it is out
abbrev pub without : ℕ → List Entry → List Entry
without number [] = []
without number (e ∷ es) = if is_number number e then es else e ∷ without number es

-- how many stand before the first that began later
abbrev pub place_in : ℕ → List Entry → ℕ
place_in number [] = 0
place_in number (e ∷ es) = if nat_lt number e.exchange.number then 0 else suc (place_in number es)

-- it comes in, before those that began later
abbrev pub entered : Entry → List Entry → List Entry
entered entry [] = entry ∷ []
entered entry (e ∷ es) =
    if nat_lt entry.exchange.number e.exchange.number then entry ∷ e ∷ es else e ∷ entered entry es

-- the exchange with this number, with a place or without
abbrev pub first_of : Option Entry → Option Entry → Option Entry
first_of None other = other
first_of (Some entry) other = Some entry

abbrev pub entry_of : ℕ → Exchanges → Option Entry
entry_of number f = first_of (find (is_number number) f.waiting) (find (is_number number) f.placed)

-- what it asks is now this
abbrev pub with_errand : ℕ → Errand → Exchanges → Exchanges
with_errand number errand f = if list_any (is_number number) f.waiting
    then record f { waiting = changed number (asking errand) f.waiting }
    else record f { placed = changed number (asking errand) f.placed }

-- it gets a place, as the last of the line
abbrev pub placed_on : ℕ → ℕ → Exchanges → Exchanges
placed_on connection number f = elim (find (is_number number) f.waiting) [
  | None ↦ f
  | Some e ↦ record f { waiting = without number f.waiting; placed = f.placed ++ with_place (Some connection) e ∷ [] }
]

-- its place is taken away
abbrev pub unplaced : ℕ → Exchanges → Exchanges
unplaced number f = elim (find (is_number number) f.placed) [
  | None ↦ f
  | Some e ↦ record f { waiting = entered (with_place None e) f.waiting; placed = without number f.placed }
]

-- the exchanges of a connection, in the order in which they got their place
abbrev pub is_place : ℕ → Option ℕ → Bool
is_place connection None = false
is_place connection (Some place) = place == connection

abbrev pub is_on : ℕ → Entry → Bool
is_on connection entry = is_place connection entry.exchange.place

abbrev pub numbers : List Entry → List ℕ
numbers es = map (λ e. e.exchange.number) es

abbrev pub line_of : ℕ → List Entry → List ℕ
line_of connection es = numbers (filter (is_on connection) es)

abbrev pub is_after : Option ℕ → Entry → Bool
is_after None entry = true
is_after (Some number) entry = nat_lt number entry.exchange.number
