-- The law's words on a worked log, and what it refuses: bytes that nothing was to ask.
use Rattle.std.proofs.Common.{◌≡◌, refl, ℕ, true, List, [], ◌∷◌, ◌++◌, map, codes, None, subst, ◌∙◌}
use Rattle.pp_world.specs.Log.{Log}
use Rattle.pp_world.specs.Streams.{asked}
use Rattle.pp_world.specs.declared.happening.Happening.{Happening}
use Rattle.pp_world.specs.declared.happening.Happening.TheVariants.{Woke, Waits, CanRead, CanWrite, Clock, Opened, Heard, Dialled, Reached, Asked, Noted, Rooted, Listed, Listens}
use Rattle.pp_world.specs.declared.note.Decision.TheVariants.{Pass}
use Rattle.pp_world.specs.declared.note.Remark.TheVariants.{Taken}
use Rattle.pp_law.proofs.OnLiterals.{pp_law_on_literals}
use Rattle.pp_law.specs.Lawful.{first_fault}
use Rattle.pp_law.specs.Lists.{Bytes}
use Rattle.pp_law.specs.State.{Term, Conn, Exchange}
use Rattle.pp_laws.specs.Runs.{IsIn, state_after}
use Rattle.pp_laws_lines.specs.Lines.{WasToAsk, Ask, joined, AreWhole, IsFront, nothing, of_text, of_body, IsOneStream}

abbrev one_life : List Term
one_life = record { words = codes "diskRun=1" ∷ codes "pipelineAsks=1" ∷ codes "hostConnections=4" ∷ []; faults = 0 } ∷ []

-- it waits to accept, and for these to be read and to be written
abbrev wait : List ℕ → List ℕ → Happening
wait read write = Waits (record { accept = true; read = record { items = read }; write = record { items = write } })

-- a request that no cache may answer is passed; its origin, connection 2, is dialled and reached
abbrev to_ask : Log
to_ask =
    Woke [] ∷ Rooted (codes "polipo-cache") ∷ Listed true ∷ Listens 8123 true ∷ wait [] [] ∷ Clock 784111777 ∷ wait [] []
    ∷ Opened 1 ∷ wait (1 ∷ []) [] ∷ CanRead 1 ∷ Heard 1 (codes "GET http://h/a HTTP/1.1\r\nHost: h\r\nCache-Control: no-store\r\n\r\n") ∷ Noted (Taken 1 0 Pass)
    ∷ Dialled 2 (codes "h") 80 ∷ wait (1 ∷ []) [] ∷ Reached 2 ∷ wait (1 ∷ 2 ∷ []) (2 ∷ []) ∷ []

-- its ask goes in two parts
abbrev front : Bytes
front = codes "GET /a HTTP/1.1\r\nhost: h\r\n"

abbrev rest : Bytes
rest = codes "cache-control: no-store\r\nvia: 1.1 polipo\r\n\r\n"

abbrev in_part : Log
in_part = to_ask ++ CanWrite 2 ∷ Asked 2 front ∷ wait (1 ∷ 2 ∷ []) (2 ∷ []) ∷ []

abbrev whole : Log
whole = in_part ++ CanWrite 2 ∷ Asked 2 rest ∷ wait (1 ∷ 2 ∷ []) [] ∷ []

whole_is_lawful : first_fault one_life whole ≡ None
unfolding pp_law_on_literals
whole_is_lawful = refl

-- it stands in the line of connection 2, and nothing of it was asked
abbrev shown : Exchange → Bytes × ℕ × ℕ
shown e = (e.text, e.asked, e.body_left)

to_ask_there : map shown (state_after one_life to_ask).exchanges ≡ (front ++ rest, 0, 0) ∷ []
unfolding pp_law_on_literals
to_ask_there = refl

line_there : map {B = ℕ × List ℕ} (λ (k : Conn). (k.number, k.line)) (state_after one_life to_ask).conns ≡ (2, 0 ∷ []) ∷ []
unfolding pp_law_on_literals
line_there = refl

-- a front of its text, and then all of it
part_asked : asked 2 in_part ≡ front
unfolding asked
part_asked = refl

whole_asked : asked 2 whole ≡ front ++ rest
unfolding asked
whole_asked = refl

-- ---- where nothing happened, nothing was to ask

none_to_ask : (n : ℕ) (e : Exchange) → WasToAsk [] [] n e → ⊥
none_to_ask n e w = by w.front w.behind w.parts (λ is. subst (λ (l : Log). IsIn e (state_after [] l).exchanges) is w.then.there)
  where
    by : (xs ys : Log) → xs ++ ys ≡ [] → (xs ≡ [] → ⊥) → ⊥
    by [] ys is none = none refl
    by (x ∷ xs) ys is none = cc is

-- so no byte that was asked is accounted for
none_asked : (n b : ℕ) (bytes : Bytes) → IsOneStream [] [] n (b ∷ bytes) → ⊥
none_asked n b bytes w = by w.asks w.whole w.all
  where
    by_front : (last : Bytes) → IsFront [] [] n last → b ∷ bytes ≡ last → ⊥
    by_front last (nothing none) is = let both : b ∷ bytes ≡ [] = is ∙ none in cc both
    by_front last (of_text e more stood text) is = none_to_ask n e stood
    by_front last (of_body e body stood text le) is = none_to_ask n e stood

    by : (asks : List Ask) → AreWhole [] [] n asks → b ∷ bytes ≡ joined asks ++ w.last → ⊥
    by [] each is = by_front w.last w.front is
    by (a ∷ asks) each is = none_to_ask n a.exchange each.0.stood
