-- How a run ends.
use Rattle.std.proofs.Common.{◌≡◌, ℕ, ◌+◌, ◌-◌, ◌≤◌, true, false, List, [], ◌∷◌, ◌++◌, length, take, Option, Ok, Err, refl, ap, subst, ◌∙◌, inl, inr, arith, append_assoc, length-append}
use Rattle.std.proofs.Math.Seq.{take-append-add}
use Rattle.orb_bytes.specs.Ascii.{line_feed}
use Rattle.orb_io.specs.Told.{IsPrefix}
use Rattle.orb_io.proofs.ToldLemmas.{Loses-twice}
use Rattle.orb_io.specs.declared.pulling.TheConstants.{MOST_OF_A_RUN}
use Rattle.http_exchange.specs.declared.refusals.BadKind.{BadKind}
use Rattle.header_values.specs.Fields.{pairs_in}
use Rattle.http_exchange.specs.declared.response.ResponseHead.{ResponseHead}
use Rattle.http_exchange.specs.Reading.{ReadsResponseHead}
use Rattle.computed_type.specs.declared.outcome.TypeOutcome.{TypeOutcome}
use Rattle.computed_type.specs.declared.outcome.TypeOutcome.TheVariants as outcome
use Rattle.computed_type.specs.Computed.{HasType}
use Rattle.computed_type.specs.Inputs.{HasFields, IsBegun}
use Rattle.computed_type.specs.Answers.{HasLine, Ran}
use Rattle.computed_type.specs.Reading.{Reads, HasHead, HeadAnswers, BodyAnswers}
use Rattle.computed_type.proofs.InputLemmas.{whole_short}

-- the head didn't come whole
pub head_ran : (o : TypeOutcome) (a b : Option (List ℕ)) (head window : List ℕ) → Reads a b (HeadAnswers (Err o) head window b) → Ran o a b []
head_ran outcome.Done a b head window r = absurd r.holds
head_ran (outcome.Bad kind) a b head window r = absurd r.holds
head_ran outcome.Endless a b head window r = absurd r.holds
head_ran outcome.WriteFault a b head window r = absurd r.holds
head_ran outcome.Cut a b head window r = record {
  read = r.bytes;
  ended = true;
  lost = r.lost;
  at_end = λ _. r.holds.0;
  fits = λ _. r.holds.1;
  answers = (refl, r.holds.2, refl);
}
head_ran outcome.HeadLimit a b head window r = record {
  read = r.bytes;
  ended = false;
  lost = r.lost;
  at_end = λ lie. absurd (cc lie);
  fits = λ _. r.holds.0;
  answers = (r.holds.1, refl);
}
head_ran outcome.ReadFault a b head window r = record {
  read = r.bytes;
  ended = false;
  lost = r.lost;
  at_end = λ lie. absurd (cc lie);
  fits = λ _. r.holds.0;
  answers = (refl, inl r.holds.1, refl);
}

-- the head is refused
pub bad_ran : (kind : BadKind) (a b : Option (List ℕ)) (taken : ℕ) (head window : List ℕ) → Reads a b (HeadAnswers (Ok taken) head window b)
    → ReadsResponseHead head false (Err kind) → Ran (outcome.Bad kind) a b []
bad_ran kind a b taken head window r refused =
    let h = r.holds.2 in
    record {
      read = r.bytes;
      ended = false;
      lost = r.lost;
      at_end = λ lie. absurd (cc lie);
      fits = λ _. omega (arith, r.holds.0, r.holds.1);
      answers = (record { head = head; rest = h.body; cut = h.cut; text = h.text; refused = refused }, refl);
    }

-- the head, and so much of the body
begun_more : (head window read more : List ℕ) (fields : List (List ℕ × List ℕ)) (h : HasHead head window read) → HasFields head fields
    → IsBegun (read ++ more) fields (h.body ++ more)
begun_more head window read more fields h stated = record {
  head = head;
  cut = ap (λ t. t ++ more) h.cut ∙ append_assoc head h.body more;
  text = h.text;
  stated = stated;
}

-- the same of the first bytes, which the head doesn't pass
pub take_after : (n : ℕ) (a b : List ℕ) → length a ≤ n → take n (a ++ b) ≡ a ++ take (n - length a) b
take_after n a b few =
    let e : n ≡ length a + (n - length a) = omega (arith, few) in
    ap (λ k. take k (a ++ b)) e ∙ take-append-add a b (n - length a)

begun_first : (n : ℕ) (m : List ℕ) (fields : List (List ℕ × List ℕ)) (body : List ℕ) (h : IsBegun m fields body) → length h.head ≤ n
    → IsBegun (take n m) fields (take (n - length h.head) body)
begun_first n m fields body h few = record {
  head = h.head;
  cut = ap (λ t. take n t) h.cut ∙ take_after n h.head body few;
  text = h.text;
  stated = h.stated;
}

-- the body didn't come whole
pub body_ran : (o : TypeOutcome) (a b c : Option (List ℕ)) (taken : ℕ) (head seen window : List ℕ) (fields : List (List ℕ × List ℕ))
    → Reads a b (HeadAnswers (Ok taken) head seen b) → HasFields head fields → Reads b c (BodyAnswers (Err o) taken seen window c) → Ran o a c []
unfolding begun_more
body_ran outcome.Done a b c taken head seen window fields r stated s = absurd s.holds
body_ran (outcome.Bad kind) a b c taken head seen window fields r stated s = absurd s.holds
body_ran outcome.Cut a b c taken head seen window fields r stated s = absurd s.holds
body_ran outcome.HeadLimit a b c taken head seen window fields r stated s = absurd s.holds
body_ran outcome.WriteFault a b c taken head seen window fields r stated s = absurd s.holds
body_ran outcome.ReadFault a b c taken head seen window fields r stated s =
    let h = r.holds.2 in
    record {
      read = r.bytes ++ s.bytes;
      ended = false;
      lost = Loses-twice a b c r.bytes s.bytes r.lost s.lost;
      at_end = λ lie. absurd (cc lie);
      fits = λ _. omega (arith, r.holds.0, s.holds, length-append r.bytes s.bytes);
      answers = (refl, inr (fields, h.body ++ s.bytes, begun_more head seen r.bytes s.bytes fields h stated), refl);
    }
body_ran outcome.Endless a b c taken head seen window fields r stated s =
    let h = r.holds.2 in
    let all = begun_more head seen r.bytes s.bytes fields h stated in
    record {
      read = r.bytes ++ s.bytes;
      ended = false;
      lost = Loses-twice a b c r.bytes s.bytes r.lost s.lost;
      at_end = λ lie. absurd (cc lie);
      fits = λ never. absurd (never refl);
      answers = (
        (omega (arith, r.holds.0, s.holds, length-append r.bytes s.bytes)),
        refl,
        inr (
          fields,
          take (MOST_OF_A_RUN - length head) (h.body ++ s.bytes),
          begun_first MOST_OF_A_RUN (r.bytes ++ s.bytes) fields (h.body ++ s.bytes) all (omega (arith, whole_short head h.text)),
        ),
        refl,
      );
    }

-- all was read, and this holds of the line
line_of : (a b c : Option (List ℕ)) (taken : ℕ) (head seen window : List ℕ) (fields : List (List ℕ × List ℕ)) (essence : List ℕ)
    (P : List ℕ → Type 0) (r : Reads a b (HeadAnswers (Ok taken) head seen b)) → HasFields head fields
    → (s : Reads b c (BodyAnswers (Ok tt) taken seen window c)) → HasType fields window essence → P (essence ++ line_feed ∷ [])
    → HasLine (r.bytes ++ s.bytes) P
line_of a b c taken head seen window fields essence P r stated s is holds =
    let h = r.holds.2 in
    record {
      fields = fields;
      body = h.body ++ s.bytes;
      begun = begun_more head seen r.bytes s.bytes fields h stated;
      essence = essence;
      is = subst (λ (w : List ℕ). HasType fields w essence) (s.holds.2 h.body h.seen) is;
      holds = holds;
    }

pub done_ran : (a b c : Option (List ℕ)) (taken : ℕ) (head seen window : List ℕ) (fields : List (List ℕ × List ℕ)) (essence : List ℕ)
    → Reads a b (HeadAnswers (Ok taken) head seen b) → HasFields head fields → Reads b c (BodyAnswers (Ok tt) taken seen window c)
    → HasType fields window essence → Ran outcome.Done a c (essence ++ line_feed ∷ [])
done_ran a b c taken head seen window fields essence r stated s is =
    let line = essence ++ line_feed ∷ [] in
    record {
      read = r.bytes ++ s.bytes;
      ended = true;
      lost = Loses-twice a b c r.bytes s.bytes r.lost s.lost;
      at_end = λ _. s.holds.0;
      fits = λ _. omega (arith, r.holds.0, s.holds.1, length-append r.bytes s.bytes);
      answers = (refl, line_of a b c taken head seen window fields essence (λ l. line ≡ l) r stated s is refl);
    }

pub fault_ran : (a b c : Option (List ℕ)) (taken : ℕ) (head seen window : List ℕ) (fields : List (List ℕ × List ℕ)) (essence wrote : List ℕ)
    → Reads a b (HeadAnswers (Ok taken) head seen b) → HasFields head fields → Reads b c (BodyAnswers (Ok tt) taken seen window c)
    → HasType fields window essence → IsPrefix wrote (essence ++ line_feed ∷ []) → Ran outcome.WriteFault a c wrote
fault_ran a b c taken head seen window fields essence wrote r stated s is prefix = record {
  read = r.bytes ++ s.bytes;
  ended = true;
  lost = Loses-twice a b c r.bytes s.bytes r.lost s.lost;
  at_end = λ _. s.holds.0;
  fits = λ _. omega (arith, r.holds.0, s.holds.1, length-append r.bytes s.bytes);
  answers = (refl, line_of a b c taken head seen window fields essence (λ l. IsPrefix wrote l) r stated s is prefix);
}

-- what was read of a head is said of its bytes
pub fields_of : (head text : List ℕ) (read : ResponseHead) → text ≡ head → ReadsResponseHead text false (Ok read) → HasFields head (pairs_in read.fields)
fields_of head text read same is = record {
  read = read;
  is = subst (λ (t : List ℕ). ReadsResponseHead t false (Ok read)) same is;
  are = refl;
}
