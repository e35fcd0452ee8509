-- The one history of each user, from a hall's entrances and from what it gives back when it is closed.
use Rattle.std.proofs.Common.{◌≡◌, ℕ, zero, suc, ◌<◌, List, ◌∷◌, length, map, Option, Some, All, arith, refl, sym, ap, ◌∙◌, subst}
use Rattle.rs_path.specs.declared.log_entry.LogEntry.{LogEntry}
use Rattle.rs_path.specs.Logs.{StartsWith}
use Rattle.rs_record.specs.declared.records.Record.{Record}
use Rattle.rs_rules.specs.Contents.{Contents}
use Rattle.rs_rules.specs.Histories.{History, IsFront}
use Rattle.rs_turn.specs.Sitting.{Lock, Sitting}
use Rattle.rs_turn.proofs.Cited.{begins_through}
use Rattle.rs_user.specs.Openings.{AreToldRows}
use Rattle.rs_hall.specs.declared.room.Room.{Room}
use Rattle.rs_hall.specs.Abreast.{EachPair, no_pair, one_pair, EachTriple, no_triple, one_triple}
use Rattle.rs_hall.specs.Closings.{ComesBack}
use Rattle.rs_hall.specs.declared.hall_fault.HallFault.{HallFault}
use Rattle.rs_hall.specs.declared.hall_fault.HallFault.TheVariants.{NoMemory}
use Rattle.rs_hall.specs.Entrances.{HallRefuses, IsEntrance, told_of_user}
use Rattle.rs_hall.specs.Halls.{locks_of, list_at, quota_of_origin, quotas_of}
use Rattle.rs_hall.specs.Rooms.{history_of}
use Rattle.rs_exchange.specs.declared.account.Config.{Config}
use Rattle.rs_serve.specs.declared.post.Post.{Post}
use Rattle.rs_serve.specs.declared.tally.Tally.{Tally}
use Rattle.rs_serve.specs.Runs.{PostRun, Tellings}
use Rattle.rs_serve.specs.Servings.{RunsOfAll, ServesNobody, ServesUsers}
use Rattle.rs_serve.specs.Staffs.{ServesHall}
use Rattle.rs_serve.specs.OneHistories.{SawFronts, OneHistory}

-- told rows are those of one list, which begins with that of the rows that were told before, and with what a seat has seen
pub record ComesOn (told told' : Option (List (List ℕ))) (seen : List (LogEntry Record)) : Type 0 where
  pub list : List (LogEntry Record)
  pub spelled : AreToldRows told' (history_of list)
  pub first : List (LogEntry Record)
  pub spelled_before : AreToldRows told (history_of first)
  pub begins : StartsWith list first
  pub on : StartsWith list seen

module _ {K T R : Type 0} (tree_stands : T → Contents → Type 0) (rows : K → Option (List (List ℕ))) (row_count faults : K → ℕ) where
  comes_on : (quota : ℕ) (keeper keeper' : K) (seat seat' : Sitting Record (Room K T R)) → IsEntrance tree_stands rows row_count faults quota keeper seat
      → ComesBack tree_stands rows row_count seat' keeper' → seat'.lock ≡ seat.lock → ComesOn (rows keeper) (rows keeper') seat'.list
  comes_on quota keeper keeper' seat seat' entrance back same =
      let origins : Some back.started.0 ≡ Some entrance.room =
      sym back.started.1 ∙ (ap (λ (l : Lock (Room K T R)). l.origin) same ∙ entrance.first.origin) in
      let is : back.started.0 ≡ entrance.room = cc in
      record {
        list = back.list;
        spelled = subst (λ (k : K). AreToldRows (rows k) (history_of back.list)) back.keeper_is back.stands.spells;
        first = back.started.2.0;
        spelled_before = subst (λ (told : Option (List (List ℕ))). AreToldRows told (history_of back.started.2.0)) entrance.kept.rows_stay
            (subst (λ (r : Room K T R). AreToldRows (rows r.keeper) (history_of back.started.2.0)) is back.started.2.1.spells);
        begins = back.started.2.2;
        on = back.begins;
      }

  pub each_comes_on : {quotas : List ℕ} {keepers keepers' : List K} {seats seats' : List (Sitting Record (Room K T R))}
      → EachTriple (IsEntrance tree_stands rows row_count faults) quotas keepers seats → EachPair (ComesBack tree_stands rows row_count) seats' keepers'
      → locks_of seats' ≡ locks_of seats → (user : ℕ) → user < length keepers
      → ComesOn (told_of_user (map rows keepers) user) (told_of_user (map rows keepers') user) (list_at seats' user)
  each_comes_on no_triple back same user few = absurd (omega arith)
  each_comes_on (one_triple {x} {y} {z} {xs} {ys} {zs} e es) no_pair same user few =
      absurd (omega (arith, ap (λ (l : List (Lock (Room K T R))). length l) same))
  each_comes_on (one_triple {x} {y} {z} {xs} {ys} {zs} e es) (one_pair {x = s} {y = k} {xs = ss} {ys = ks} b bs) same zero few =
      let first : s.lock ≡ z.lock = cc in
      comes_on x y k z s e b first
  each_comes_on (one_triple {x} {y} {z} {xs} {ys} {zs} e es) (one_pair {x = s} {y = k} {xs = ss} {ys = ks} b bs) same (suc user) few =
      let rest : locks_of ss ≡ locks_of zs = cc in
      each_comes_on es bs rest user (omega arith)

  pub keepers_back : {quotas : List ℕ} {keepers keepers' : List K} {seats seats' : List (Sitting Record (Room K T R))}
      → EachTriple (IsEntrance tree_stands rows row_count faults) quotas keepers seats → EachPair (ComesBack tree_stands rows row_count) seats' keepers'
      → locks_of seats' ≡ locks_of seats → length keepers' ≡ length keepers
  keepers_back no_triple no_pair same = refl
  keepers_back no_triple (one_pair {x = s} {y = k} {xs = ss} {ys = ks} b bs) same =
      absurd (omega (arith, ap (λ (l : List (Lock (Room K T R))). length l) same))
  keepers_back (one_triple {x} {y} {z} {xs} {ys} {zs} e es) no_pair same =
      absurd (omega (arith, ap (λ (l : List (Lock (Room K T R))). length l) same))
  keepers_back (one_triple {x} {y} {z} {xs} {ys} {zs} e es) (one_pair {x = s} {y = k} {xs = ss} {ys = ks} b bs) same =
      let rest : locks_of ss ≡ locks_of zs = cc in
      let many = keepers_back es bs rest in
      omega (arith, many)

-- a front of the history of a list is one of a list that begins with it
pub front_on : (h : History) (seen list : List (LogEntry Record)) → IsFront h (history_of seen) → StartsWith list seen → IsFront h (history_of list)
front_on h seen list front begins = record { same = front.same; entries = begins_through list seen h.entries begins front.entries }

pub one_history : (user : ℕ) (told told' : Option (List (List ℕ))) (seen : List (LogEntry Record)) (runs : List PostRun)
    → ComesOn told told' seen → All (SawFronts user seen) runs → OneHistory user told told' runs
one_history user told told' seen runs on saw = record {
  list = on.list;
  spelled = on.spelled;
  first = on.first;
  spelled_before = on.spelled_before;
  begins = on.begins;
  seen = λ k d within. record {
    start = front_on _ seen on.list (saw k d within).start on.on;
    now = front_on _ seen on.list (saw k d within).now on.on;
  };
}

module _ {K T R : Type 0} (tree_stands : T → Contents → Type 0) (rows : K → Option (List (List ℕ))) (row_count faults : K → ℕ) where
  -- the quotas of the locks are those under which their rooms were opened
  quotas_are : {quotas : List ℕ} {keepers : List K} {seats : List (Sitting Record (Room K T R))}
      → EachTriple (IsEntrance tree_stands rows row_count faults) quotas keepers seats → quotas_of (locks_of seats) ≡ quotas
  quotas_are no_triple = refl
  quotas_are (one_triple {x} {y} {z} {xs} {ys} {zs} e es) =
      ap (λ (n : ℕ). n ∷ quotas_of (locks_of zs)) (ap quota_of_origin e.first.origin ∙ e.quota_is) ∙ ap (λ (l : List ℕ). x ∷ l) (quotas_are es)

  pub seats_many : {quotas : List ℕ} {keepers : List K} {seats : List (Sitting Record (Room K T R))}
      → EachTriple (IsEntrance tree_stands rows row_count faults) quotas keepers seats → (length seats ≡ length quotas) × (length keepers ≡ length quotas)
  seats_many no_triple = (refl, refl)
  seats_many (one_triple {x} {y} {z} {xs} {ys} {zs} e es) =
      let rest = seats_many es in
      let a = rest.0 in
      let b = rest.1 in
      (omega (arith, a), omega (arith, b))

  module _ {N E S W : Type 0} (tells : Tellings N E S W) (config : Config) where
    pub users_served : (quotas : List ℕ) (keepers keepers' : List K) (seats seats' : List (Sitting Record (Room K T R))) (posts posts' : List (Post N E)) (tally : Tally)
        → EachTriple (IsEntrance tree_stands rows row_count faults) quotas keepers seats → ServesHall tells config seats seats' posts posts' tally
        → EachPair (ComesBack tree_stands rows row_count) seats' keepers' → length quotas ≡ length config.accounts
        → ServesUsers tells rows config quotas posts posts' keepers keepers' tally
    users_served quotas keepers keepers' seats seats' posts posts' tally entrances served back many = record {
      runs = served.runs;
      posts_did = subst (λ (q : List ℕ). RunsOfAll tells config q posts posts' tally served.runs) (quotas_are entrances) served.posts_did;
      as_many = keepers_back tree_stands rows row_count faults entrances back served.locks;
      one = λ user account.
          one_history user _ _ (list_at seats' user) served.runs
          (each_comes_on tree_stands rows row_count faults entrances back served.locks user
          (let keepers_many = (seats_many entrances).1 in omega (arith, account, many, keepers_many)))
          (served.seen user account);
    }

module _ {N E K : Type 0} (rows : K → Option (List (List ℕ))) (row_count faults : K → ℕ) where
  -- a user's rows weren't opened, and no post was touched
  pub nobody_refused : (fault told : HallFault) (posts : List (Post N E)) (keepers keepers' : List K) → fault ≡ told
      → HallRefuses rows row_count faults told keepers keepers' → ServesNobody rows row_count faults fault posts posts keepers keepers'
  nobody_refused fault told posts keepers keepers' is refused = record {
    refused = subst (λ (f : HallFault). HallRefuses rows row_count faults f keepers keepers') (sym is) refused;
    same_posts = λ other. refl;
  }

  -- memory ran out
  pub nobody_starved : (fault : HallFault) (posts posts' : List (Post N E)) (keepers keepers' : List K) → fault ≡ NoMemory
      → ServesNobody rows row_count faults fault posts posts' keepers keepers'
  nobody_starved fault posts posts' keepers keepers' is = record {
    refused = subst (λ (f : HallFault). HallRefuses rows row_count faults f keepers keepers') (sym is) tt;
    same_posts = λ other. absurd (other is);
  }
