-- A sender's output, a put at a time.
use Rattle.port_egress.proofs.Words.{◌≡◌, ℕ, ◌+◌, List, [], ◌∷◌, ◌++◌, take, Option, Some, None, IsSome, MatchOption, Result, Ok, Err}
use Rattle.port_egress.proofs.Words.{OnOk, OnErr, refl, sym, ap, ◌∙◌, Pkt, Departure, Sinks, PutFault, held_after, PutSome}
use Rattle.port_egress.proofs.Words.{header_text, Sender, Stamps, Target, send_text, IsWhole, IsCut, in_header, target_by, target_of}
use Rattle.port_egress.proofs.Words.{HasWritten}
use Rattle.std.specs.Result.{result_err}
use Rattle.port_egress.proofs.Outputs.{IsWhole-start, IsWhole-more, IsCut-now, IsCut-more}

-- what a sink that tells held before these bytes were added
told_before : (added : List ℕ) (before : Option (List ℕ)) (text : List ℕ) → held_after added before ≡ Some text
    → (held : List ℕ) × (before ≡ Some held) × (text ≡ held ++ added)
told_before added None text is = cc
told_before added (Some held) text is = (held, refl, cc)

module _ {K : Type 0} (G : Sinks K) where
  -- what a sink that is there tells is all that there is to show
  there : (body : Pkt → List ℕ) (sends : List (Departure Pkt)) (s : Sender K) (k : K) → s.sink ≡ Some k
      → ((text : List ℕ) → G.contents k ≡ Some text
      → MatchOption s.fault (IsWhole (target_of s body) sends s.sent text) (λ _. IsCut (target_of s body) sends s.sent text))
      → HasWritten G body sends s
  there body sends s k is tells = record {
    told = λ j text j_is text_is.
        let same : j ≡ k = cc in
        tells text (rw same at text_is);
    none = λ no. absurd (let not : ⊥ = cc in not);
  }

  -- the header was put, or a part of it
  pub begun : (body : Pkt → List ℕ) (stamps : Stamps) (sent unwritten : ℕ) → sent ≡ 0 → (before after : K)
      (put : Result (Unit {0}) PutFault) (fault : Option PutFault)
      → fault ≡ result_err put
      → G.contents before ≡ Some [] → OnOk put (G.contents after ≡ held_after header_text (G.contents before))
      → OnErr put (PutSome header_text (G.contents before) (G.contents after))
      → HasWritten G body [] (record { sink = Some after; stamps = stamps; sent = sent; unwritten = unwritten; fault = fault })
  begun body stamps sent unwritten none before after (Ok u) fault is empty added refused =
      rw (none, is) (there body [] _ after refl (λ text tells.
      let all : Some text ≡ Some header_text = sym tells ∙ added ∙ ap (held_after header_text) empty in
      let is : text ≡ header_text = cc in rw is (IsWhole-start (target_by stamps body))))
  begun body stamps sent unwritten none before after (Err e) fault is empty added refused =
      rw (none, is) (there body [] _ after refl (λ text tells.
      let all : Some text ≡ Some (take refused.count header_text) = sym tells ∙ refused.added
      ∙ ap (held_after (take refused.count header_text)) empty in
      in_header refl refused.count cc))

  module _ (body : Pkt → List ℕ) (sends : List (Departure Pkt)) (d : Departure Pkt) (old : Sender K)
      (written : HasWritten G body sends old) where
    abbrev at : Target
    at = target_of old body

    module _ (before after : K) (is : old.sink ≡ Some before) (fine : old.fault ≡ None) where
      -- what a whole output holds after a put that added these bytes
      put-more : (added text : List ℕ) → G.contents after ≡ held_after added (G.contents before) → G.contents after ≡ Some text
          → (held : List ℕ) × IsWhole at sends old.sent held × (text ≡ held ++ added)
      put-more added text put tells =
          let was = told_before added (G.contents before) text (sym put ∙ tells) in
          (was.0, rw fine at (written.told before was.0 is was.1), was.2)

      -- the record was put whole
      pub send-whole : G.contents after ≡ held_after (send_text at d) (G.contents before)
          → HasWritten G body (sends ++ d ∷ []) (record old { sink = Some after; sent = old.sent + 1 })
      send-whole put = there body (sends ++ d ∷ []) _ after refl (λ text tells.
          let more = put-more (send_text at d) text put tells in
          rw (fine, more.2) (IsWhole-more at sends d old.sent more.0 more.1))

      -- a put of it was refused
      pub send-cut : (fault : PutFault) → PutSome (send_text at d) (G.contents before) (G.contents after)
          → HasWritten G body (sends ++ d ∷ []) (record old { sink = Some after; unwritten = old.unwritten + 1; fault = Some fault })
      send-cut fault put = there body (sends ++ d ∷ []) _ after refl (λ text tells.
          let more = put-more (take put.count (send_text at d)) text put.added tells in
          rw more.2 (IsCut-now at sends d old.sent put.count more.0 more.1))

    cut_stays : (fault : Option PutFault) (text : List ℕ) → IsSome fault
        → MatchOption fault (IsWhole at sends old.sent text) (λ _. IsCut at sends old.sent text)
        → MatchOption fault (IsWhole at (sends ++ d ∷ []) old.sent text) (λ _. IsCut at (sends ++ d ∷ []) old.sent text)
    cut_stays None text fails so = absurd (let not : ⊥ = cc in not)
    cut_stays (Some fault) text fails so = IsCut-more at sends (d ∷ []) old.sent text so

    -- nothing was put, after a fault
    pub send-not : IsSome old.fault → HasWritten G body (sends ++ d ∷ []) (record old { unwritten = old.unwritten + 1 })
    send-not fails = record
        { told = λ k text is tells. cut_stays old.fault text fails (written.told k text is tells); none = λ no. written.none no }
