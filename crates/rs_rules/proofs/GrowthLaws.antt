-- How histories grow.
use Rattle.std.proofs.Common.{◌≡◌, ℕ, ◌-◌, List, [], ◌++◌, length, take, drop, Option, Some, None, arith, refl, sym, ap, ◌∙◌, subst, append-nil, append_assoc, length-append, take-append-drop, eq-eqb}
use Rattle.std.specs.Prelude.{◌==◌}
use Rattle.std.proofs.lemmas.Bool.{cond-true}
use Rattle.std.proofs.lemmas.List.Elements.{filter-append}
use Rattle.std.proofs.Math.Seq.{take-append_seam}
use Rattle.rs_path.specs.declared.log_entry.LogEntry.{LogEntry}
use Rattle.rs_path.specs.Logs.{own}
use Rattle.rs_record.specs.declared.records.Record.{Record}
use Rattle.rs_rules.specs.declared.request.Request.{Request}
use Rattle.rs_rules.specs.declared.reply.Reply.{Reply}
use Rattle.rs_rules.specs.Histories.{History, len, with_entries, up_to, IsFront}
use Rattle.rs_rules.specs.Answers.{answer, taken, entry_of}
use Rattle.rs_rules.specs.Growth.{Grows, GrowsByOthers}

pub front-itself : (h : History) → IsFront h h
front-itself h = record { same = refl; entries = ([], sym (append-nil h.entries)) }

pub front-trans : (a b c : History) → IsFront a b → IsFront b c → IsFront a c
front-trans a b c first second = record {
  same = second.same ∙ first.same;
  entries = (
    first.entries.0 ++ second.entries.0,
    second.entries.1 ∙ ap (λ es. es ++ second.entries.0) first.entries.1 ∙ append_assoc a.entries first.entries.0 second.entries.0,
  );
}

pub front-up_to : (h : History) (n : ℕ) → IsFront (up_to n h) h
front-up_to h n = record {
  same = refl;
  entries = (drop (n - h.base.cut) h.entries, sym (take-append-drop (n - h.base.cut) h.entries));
}

pub front-with_entries : (h : History) (es : List (LogEntry Record)) → IsFront h (with_entries h es)
front-with_entries h es = record { same = refl; entries = (es, refl) }

pub up_to-len : (h : History) (es : List (LogEntry Record)) → up_to (len h) (with_entries h es) ≡ h
up_to-len h es =
    let count : len h - h.base.cut ≡ length h.entries = omega arith in
    ap (λ l. record { base = h.base; entries = l }) (ap (λ k. take k (h.entries ++ es)) count ∙ take-append_seam h.entries es)

own-entry_of : (me : ℕ) (what : Option Record) → own me (entry_of me what) ≡ entry_of me what
own-entry_of me None = refl
own-entry_of me (Some what) = cond-true (me == me) _ _ (eq-eqb me me refl)

-- a desk that is alone grows its history by the record taken at the whole history
pub grows-alone : (h : History) (quota me : ℕ) (r : Request)
    → Grows h (with_entries h (entry_of me (taken h quota r))) quota me r (answer h quota r) (len h)
grows-alone h quota me r =
    let more = entry_of me (taken h quota r) in
    let back = up_to-len h more in
    record {
      point = record { above = omega arith; within = omega (arith, length-append h.entries more) };
      before = subst (IsFront h) (sym back) (front-itself h);
      replied = ap (λ g. answer g quota r) (sym back);
      added = ap (λ g. with_entries g (entry_of me (taken g quota r))) (sym back);
      mine = filter-append (λ (e : LogEntry Record). e.who == me) h.entries more
          ∙ ap (λ es. own me h.entries ++ es) (own-entry_of me (taken h quota r))
          ∙ ap (λ g. own me h.entries ++ entry_of me (taken g quota r)) (sym back);
    }

pub others-itself : (h : History) (me : ℕ) → GrowsByOthers h h me
others-itself h me = record { before = front-itself h; mine = refl }

pub others-trans : (a b c : History) (me : ℕ) → GrowsByOthers a b me → GrowsByOthers b c me → GrowsByOthers a c me
others-trans a b c me first second = record {
  before = front-trans a b c first.before second.before;
  mine = second.mine ∙ first.mine;
}

-- what was before a turn is a prefix of what is after it
pub front-Grows : (old new : History) (quota me : ℕ) (r : Request) (reply : Reply) (front : ℕ) → Grows old new quota me r reply front → IsFront old new
front-Grows old new quota me r reply front grows = front-trans old (up_to front new) new grows.before (front-up_to new front)

-- others' entries first, and then a turn, are one turn
pub grows-after_others : (a b c : History) (quota me : ℕ) (r : Request) (reply : Reply) (front : ℕ)
    → GrowsByOthers a b me → Grows b c quota me r reply front → Grows a c quota me r reply front
grows-after_others a b c quota me r reply front first grows = record {
  point = grows.point;
  before = front-trans a b (up_to front c) first.before grows.before;
  replied = grows.replied;
  added = grows.added;
  mine = grows.mine ∙ ap (λ es. es ++ entry_of me (taken (up_to front c) quota r)) first.mine;
}
