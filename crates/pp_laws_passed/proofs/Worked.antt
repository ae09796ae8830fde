-- The law's words on a worked log, and what they refuse: a second response under one head.
use Rattle.std.proofs.Common.{◌≡◌, refl, ℕ, true, false, not, List, [], ◌∷◌, ◌++◌, map, filter_map, codes, Some, None, sym, ap, ◌∙◌}
use Rattle.pp_head.specs.Response.{Response}
use Rattle.pp_world.specs.Log.{Log}
use Rattle.pp_world.specs.declared.happening.Happening.{Happening}
use Rattle.pp_world.specs.declared.happening.Happening.TheVariants.{Woke, Waits, CanRead, CanWrite, Clock, Opened, Heard, Said, Dialled, Reached, Asked, Got, Noted, Rooted, Listed, Listens}
use Rattle.pp_world.specs.declared.note.Decision.TheVariants.{Pass}
use Rattle.pp_world.specs.declared.note.Remark.TheVariants.{Taken}
use Rattle.pp_law.proofs.OnLiterals.{pp_law_on_literals}
use Rattle.pp_law.specs.Connections.{is_for}
use Rattle.pp_law.specs.Lawful.{first_fault}
use Rattle.pp_law.specs.Stages.{is_pending, passed_of}
use Rattle.pp_law.specs.State.{State, Term, Pending, Answer, Client, Conn, Exchange, Passed}
use Rattle.pp_laws.specs.Runs.{IsIn, state_after}
use Rattle.pp_laws_passed.specs.Passed.{is_in_passed, IsFedBy, IsOneResponse}

abbrev one_life : List Term
one_life = record { words = codes "diskRun=1" ∷ codes "pipelineAsks=1" ∷ codes "hostConnections=4" ∷ []; faults = 0 } ∷ []

-- it waits to accept, and for these to be read and to be written
abbrev wait : List ℕ → List ℕ → Happening
wait read write = Waits (record { accept = true; read = record { items = read }; write = record { items = write } })

abbrev opening : Log
opening = Woke [] ∷ Rooted (codes "polipo-cache") ∷ Listed true ∷ Listens 8123 true ∷ wait [] [] ∷ Clock 784111777 ∷ wait [] [] ∷ []

-- a request that no cache may answer is passed, and half of the response's body came, and was said
abbrev half : Log
half =
    opening ++ Opened 1 ∷ wait (1 ∷ []) [] ∷ CanRead 1 ∷ Heard 1 (codes "GET http://h/a HTTP/1.1\r\nHost: h\r\nCache-Control: no-store\r\n\r\n") ∷ Noted (Taken 1 0 Pass)
    ∷ Dialled 2 (codes "h") 80 ∷ wait (1 ∷ []) [] ∷ Reached 2 ∷ wait (1 ∷ 2 ∷ []) (2 ∷ []) ∷ CanWrite 2
    ∷ Asked 2 (codes "GET /a HTTP/1.1\r\nhost: h\r\ncache-control: no-store\r\nvia: 1.1 polipo\r\n\r\n") ∷ wait (1 ∷ 2 ∷ []) []
    ∷ CanRead 2 ∷ Got 2 (codes "HTTP/1.1 200 OK\r\nContent-Length: 10\r\n\r\nAAAAA") ∷ wait (1 ∷ 2 ∷ []) (1 ∷ [])
    ∷ CanWrite 1 ∷ Said 1 80 (codes "HTTP/1.1 200 OK\r\nvia: 1.1 polipo\r\ncontent-length: 10\r\nconnection: keep-alive\r\n\r\n") ∷ wait (1 ∷ 2 ∷ []) (1 ∷ []) ∷ []

half_is_lawful : first_fault one_life half ≡ None
unfolding pp_law_on_literals
half_is_lawful = refl

-- status and length of the heads that clients were told, and of those to whose bodies more comes
abbrev told : State → List (ℕ × ℕ)
told s = map {B = ℕ × ℕ} (λ (p : Passed). (p.head.status, p.head.length)) (filter_map passed_of s.clients)

abbrev come : State → List (ℕ × ℕ)
come s = map {B = ℕ × ℕ} (λ (a : Answer). (a.head.status, a.head.length)) (filter_map (λ (k : Conn). k.answer) s.conns)

one_is_told : told (state_after one_life half) ≡ (200, 39) ∷ []
unfolding pp_law_on_literals
one_is_told = refl

and_it_comes : come (state_after one_life half) ≡ (200, 39) ∷ []
unfolding pp_law_on_literals
and_it_comes = refl

in_the_midst : map (λ (c : Client). is_in_passed c.stage) (state_after one_life half).clients ≡ true ∷ []
unfolding pp_law_on_literals
in_the_midst = refl

-- ---- no second response: neither one that is still to come, nor one with another head

not_to_come : (s : State) (c : Client) (p : Passed) (e : Exchange) → IsIn e s.exchanges → is_for e c ≡ true → e.body ≡ Pending → IsOneResponse s c p → ⊥
not_to_come s c p e there hit none w = let both : false ≡ true = sym (ap (λ b. not (is_pending b)) none) ∙ w.headed e there hit in cc both

not_another : (k : Conn) (e : Exchange) (p : Passed) (a : Answer) → k.answer ≡ Some a → ¬ (a.head.length ≡ p.head.length) → IsFedBy k e p → ⊥
not_another k e p a has apart w =
    let both : Some a ≡ Some w.answer = sym has ∙ w.is in
    let eq : a ≡ w.answer = cc in
    apart (ap (λ (x : Answer). x.head.length) eq ∙ sym (ap (λ (h : Response). h.length) w.head))
