-- Whose response comes next on a connection.
use Rattle.std.proofs.Common.{◌≡◌, refl, sym, ap, ◌∙◌, ℕ, Bool, true, false, ◌==◌, not, if◌then◌else◌, length, List, [], ◌∷◌, Option, Some, None, option_map}
use Rattle.pp_law.specs.Connections.{exchange, is_outstanding as is_asked}
use Rattle.pp_law.specs.Lists.{is_some_with}
use Rattle.pp_law.specs.Responses.{asks_head}
use Rattle.pp_law.specs.State.{State, Exchange}
use Rattle.pp_peers_law.proofs.Loads.{none_left}
use Rattle.pp_peers_law.specs.Comes.{AwaitedIsTheLaws}
use Rattle.pp_peers_law.specs.Peers.{ShowsLine}
use Rattle.pp_pipe.specs.Asks.{awaited}
use Rattle.pp_pipe.specs.declared.asks.Ask.{Ask}

abbrev awaited_in : Option Exchange → Option Bool
awaited_in o = elim (not (is_some_with is_asked o)) as (λ x. Option Bool) [ true ↦ None | false ↦ option_map asks_head o ]

abbrev first_in : State → List ℕ → Option Exchange
first_in s line = elim line as (λ x. Option Exchange) [ [] ↦ None | n ∷ ns ↦ exchange s n ]

by_tests : (a b x y : Bool) → a ≡ b → x ≡ y → (if a then Some x else None) ≡ (elim (not b) as (λ x. Option Bool) [ true ↦ None | false ↦ Some y ])
by_tests true true x y same is = ap (λ (v : Bool). Some v) is
by_tests true false x y same is = absurd (cc same)
by_tests false true x y same is = absurd (cc same)
by_tests false false x y same is = refl

in_line : (s : State) (line : List ℕ) (asks : List Ask) → ShowsLine s line asks → awaited asks ≡ awaited_in (first_in s line)
in_line s [] [] shows = refl
in_line s [] (ask ∷ asks) shows = absurd shows
in_line s (n ∷ line) [] shows = absurd shows
in_line s (n ∷ line) (ask ∷ asks) shows =
    by_tests (ask.text_left == 0) (shows.0.0.asked == length shows.0.0.text) ask.head_request (asks_head shows.0.0)
    (none_left shows.0.0.asked ask.text_left (length shows.0.0.text) shows.0.2.text) shows.0.2.to_head
    ∙ sym (ap awaited_in shows.0.1)

pub awaits : AwaitedIsTheLaws
awaits s p k shows is_open = in_line s k.line p.pipe.asks (shows.pipe is_open).line
