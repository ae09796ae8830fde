-- From its first happening on the log of a life goes on up to its first wait.
use Rattle.std.proofs.Common.{◌≡◌, refl, sym, subst, ap, ◌∙◌, ℕ, Bool, true, List, [], ◌∷◌, ◌++◌, append_assoc, map, Option, Some, None, Ok}
use Rattle.std.proofs.lemmas.List.Sums.{fold-append}
use Rattle.pp_conf.specs.Words.{file_of}
use Rattle.pp_joints_law.proofs.OpenedFolder.{folders_lead}
use Rattle.pp_joints_law.proofs.OpenedFresh.{fresh_asked, fresh_woken}
use Rattle.pp_joints_law.proofs.OpenedWords.{words_lead}
use Rattle.pp_joints_law.specs.Opened.{LivesBegin, StandsConfigured, StandsListening, ToldLivesBegin, asked_for}
use Rattle.pp_law.specs.After.{after, changed}
use Rattle.pp_law.specs.Lists.{Bytes}
use Rattle.pp_law.specs.Opening.{permits_image, permits_woke, woken}
use Rattle.pp_law.specs.Permits.{IsPermitted, is_permitted, permits}
use Rattle.pp_law.specs.State.{State, Term}
use Rattle.pp_laws.proofs.Tests.{first_holds}
use Rattle.pp_obeys.proofs.Moving.{moves_append, moves_map}
use Rattle.pp_obeys.proofs.Obeying.{obeys_more}
use Rattle.pp_obeys.specs.Moves.{Leads, MovesAll}
use Rattle.pp_obeys.specs.Obeys.{Obeys}
use Rattle.pp_recover.specs.Opening.{IsFresh}
use Rattle.pp_rounds_law.proofs.Coming.{comes_by, enough_of}
use Rattle.pp_rounds_law.specs.Coming.{Affords, ComesWhere}
use Rattle.pp_shelf.specs.Opening.{Recovers}
use Rattle.pp_shelf_law.specs.Folder.{disk_of, disk_with}
use Rattle.pp_world.specs.Disk.{is_rising}
use Rattle.pp_world.specs.Files.{Files}
use Rattle.pp_world.specs.Log.{Log}
use Rattle.pp_world.specs.declared.happening.Happening.TheVariants.{Configured, Listens, Woke}

-- ---- happenings that may come lead somewhere

moved_to : (Q : State → Type 0) (hs : Log) (s : State) → MovesAll Q hs s → (t : State) × Leads hs s t × Q t
moved_to Q [] s holds = (s, refl, holds)
moved_to Q (h ∷ hs) s moves = let rest = moved_to Q hs (after s h) moves.holds in (rest.0, record { awake = moves.awake; may = moves.may; holds = rest.1 }, rest.2)

pub comes_where : (Q : State → Type 0) (terms : List Term) (before hs : Log) (s : State) → Obeys terms s before → Affords s hs → MovesAll Q hs s → ComesWhere Q terms before hs s
comes_where Q terms before hs s obeys affords moves =
    let there = moved_to Q hs s moves in
    record { then = there.0; comes = comes_by terms hs before s there.0 (enough_of s hs affords) obeys there.1; holds = there.2 }

-- ---- a life wakes

woke_may : (s : State) (files : Files) → IsPermitted s (Woke files) → permits_woke s files ≡ true
unfolding is_permitted permits
woke_may s files may = by s.made_room_for may
  where
    by : (who : Option ℕ) → (elim who as (λ c. Bool) [ Some n ↦ permits_woke s files | None ↦ permits_woke s files ]) ≡ true → permits_woke s files ≡ true
    by None holds = holds
    by (Some n) holds = holds

woke_rises : (s : State) (files : Files) → IsPermitted s (Woke files) → is_rising (map (λ file. file.0) files) ≡ true
woke_rises s files may = first_holds (is_rising (map (λ file. file.0) files)) (permits_image s.phase s.disk files) (woke_may s files may)

pub woke_obeys : (terms : List Term) (before : Log) (s : State) (files : Files) → Obeys terms s before → IsPermitted s (Woke files) → Obeys terms (woken files s) (before ++ Woke files ∷ [])
unfolding changed
woke_obeys terms before s files obeys may = obeys_more (Woke files) obeys may

asked_disk : (files : Files) (before : Log) (named text : Option Bytes) → disk_of ((before ++ Woke files ∷ []) ++ asked_for named text) ≡ Woke files ∷ []
asked_disk files before None text = fold-append disk_with [] (before ++ Woke files ∷ []) [] ∙ fold-append disk_with [] before (Woke files ∷ [])
asked_disk files before (Some file) text = fold-append disk_with [] (before ++ Woke files ∷ []) (Configured file text ∷ []) ∙ fold-append disk_with [] before (Woke files ∷ [])

pub lives_begin : LivesBegin
lives_begin terms before s words text c files shelf hs obeys may same h few recovers affords =
    let asked : Log = asked_for (file_of words) text in
    let fresh = fresh_asked files (before ++ Woke files ∷ []) (file_of words) text (fresh_woken before files) in
    comes_where (StandsListening c shelf s.top) terms (before ++ Woke files ∷ []) (asked ++ (hs ++ Listens c.port true ∷ [])) (woken files s) (woke_obeys terms before s files obeys may) affords
    (moves_append (StandsListening c shelf s.top) asked (hs ++ Listens c.port true ∷ []) (woken files s)
    (moves_map (StandsConfigured c files s.top) (λ t. MovesAll (StandsListening c shelf s.top) (hs ++ Listens c.port true ∷ []) t)
    (λ t stands. folders_lead c files shelf s.top ((before ++ Woke files ∷ []) ++ asked) hs t (woke_rises s files may) few fresh (asked_disk files before (file_of words) text) recovers stands) asked (woken files s)
    (words_lead words text c files s h same)))

-- ---- as a log tells it

same_log : (k l : Log) → Some k ≡ Some l → k ≡ l
same_log k l is = cc is

pub told_begin : ToldLivesBegin
told_begin terms before log s words text c files shelf old asked opened new obeys may same h few was asks opens listened is affords =
    let last = listened.was log is in
    let mid = opens.was last.0 last.1 in
    let first = asks.was mid.0 mid.2 in
    let front : Log = before ++ Woke files ∷ [] in
    let said : Log = asked_for (file_of words) text in
    let start : first.0 ≡ front = same_log first.0 front (sym first.1 ∙ was) in
    let there : mid.0 ≡ front ++ said = first.2 ∙ ap (λ (k : Log). k ++ said) start in
    let fresh : IsFresh files (front ++ said) = fresh_asked files front (file_of words) text (fresh_woken before files) in
    let recovers : Recovers c.root (Ok shelf) files (front ++ said) mid.1 = subst (λ (k : Log). (image : Files) → IsFresh image k → Recovers c.root (Ok shelf) image k mid.1) there mid.4 files fresh in
    let whole : log ≡ front ++ (said ++ (mid.1 ++ Listens c.port true ∷ [])) =
    last.2 ∙ ap (λ (k : Log). k ++ Listens c.port true ∷ []) (mid.3 ∙ ap (λ (k : Log). k ++ mid.1) there)
    ∙ append_assoc (front ++ said) mid.1 (Listens c.port true ∷ []) ∙ append_assoc front said (mid.1 ++ Listens c.port true ∷ []) in
    record {
      added = said ++ (mid.1 ++ Listens c.port true ∷ []);
      is = whole;
      comes = lives_begin terms before s words text c files shelf mid.1 obeys may same h few recovers (affords (said ++ (mid.1 ++ Listens c.port true ∷ [])) whole);
    }
