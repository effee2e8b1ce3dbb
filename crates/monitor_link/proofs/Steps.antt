-- What deliveries do to a target's end that is in step with a host whose request waits.
use Rattle.std.proofs.Common.{◌≡◌, ◌<◌, ◌≤◌, ◌⊎◌, ℕ, ◌+◌, ◌^◌, Bool, true, false, nat_eq, if◌then◌else◌, List, [], ◌∷◌, ◌++◌, Option, None, Some, IfSome, option_map, take, refl, sym, ap, subst, ◌∙◌, arith, inl, inr, suc, zero}
use Rattle.std.proofs.lemmas.Bool.{eqb-true, eq-eqb}
use Rattle.std.specs.Option.{option_to_list}
use Rattle.target_monitor.specs.declared.requests.Request.{Request}
use Rattle.target_monitor.specs.declared.requests.Request.TheVariants as request
use Rattle.target_monitor.specs.declared.requests.Reply.{Reply}
use Rattle.target_monitor.specs.declared.target.ProgramStatus.{ProgramStatus}
use Rattle.target_monitor.specs.declared.target.ProgramStatus.TheVariants.{Unfinished, Ended, Failed}
use Rattle.target_monitor.specs.Served.{TargetState, served, after_go}
use Rattle.link_frames.specs.declared.frames.RequestFrame.{RequestFrame}
use Rattle.link_frames.specs.declared.frames.AnswerFrame.{AnswerFrame}
use Rattle.link_frames.specs.Frames.{request_of, answer_of, answer_frame, request_frame, IsReadReply, IsReadRequest}
use Rattle.link_frames.specs.Laws.{answer_of-number}
use Rattle.monitor_link.specs.declared.link.TheConstants.{KEPT_FRAMES}
use Rattle.monitor_link.specs.Target.{EndState, target_after, executed, taken_frame, kept_answer, delivered, given, all_delivered, all_given}
use Rattle.monitor_link.specs.declared.link.Heard.{Heard}
use Rattle.monitor_link.specs.declared.link.Heard.TheVariants.{Answer}
use Rattle.monitor_link.specs.Exchange.{Among, answer_heard, frames_with, Exchanged}
use Rattle.monitor_link.specs.Host.{HostState, BelongsTo, Agrees, Reaches, IsSynchronized, AtMostOnce, IsKeptFrame, request_in_frame, sender, next_number}

if-either : {A : Type 0} (P : A → Type 0) (b : Bool) (x y : A) → (b ≡ true → P x) → (b ≡ false → P y) → P (if b then x else y)
if-either P true x y p q = p refl
if-either P false x y p q = q refl

true-false : true ≡ false → ⊥
true-false h = cc

pub among-append : {A : Type 0} (x : A) (xs ys : List A) → Among x (xs ++ ys) → Among x xs ⊎ Among x ys
among-append x [] ys h = inr h
among-append x (z ∷ zs) ys h = elim h [
  | inl e ↦ inl (inl e)
  | inr k ↦ elim (among-append x zs ys k) [ inl a ↦ inl (inr a) | inr b ↦ inr b ]
]

pub among-take : {A : Type 0} (k : ℕ) (x : A) (xs : List A) → Among x (take k xs) → Among x xs
among-take zero x xs h = absurd h
among-take (suc k) x [] h = absurd h
among-take (suc k) x (y ∷ ys) h = elim h [ inl e ↦ inl e | inr m ↦ inr (among-take k x ys m) ]

among-option : {A : Type 0} (x : A) (o : Option A) → Among x (option_to_list o) → o ≡ Some x
among-option x None h = absurd h
among-option x (Some y) h = elim h [ inl e ↦ ap Some (sym e) | inr k ↦ absurd k ]

-- the host whose request waits
abbrev pub host_of : ℕ → Request → HostState
host_of n r = record { number = n; waits = Option.Some r }

-- a frame that the host sent, or bytes that are none
abbrev pub IsOwn : ℕ → Request → List ℕ → Type 0
IsOwn n r bytes = IfSome (request_of bytes) (BelongsTo (host_of n r))

-- at most once stays at most once
once-taken : (n : ℕ) (r : Request) (base t : EndState) (f : Option RequestFrame) → base.last + 1 ≡ n → IfSome f (BelongsTo (host_of n r))
    → AtMostOnce base r t → AtMostOnce base r (taken_frame t f)
once-taken n r base t None at own once = once
once-taken n r base t (Some f) at own once =
    let first : AtMostOnce base r (taken_frame base (Some f)) =
    if-either (AtMostOnce base r) (nat_eq f.number (base.last + 1)) (executed base f.request) base
    (λ h. inr (ap (executed base) (own.1 (eqb-true f.number (base.last + 1) h ∙ at))))
    (λ h. inl refl) in
    let again : AtMostOnce base r (taken_frame (executed base r) (Some f)) =
    if-either (AtMostOnce base r) (nat_eq f.number (base.last + 1 + 1)) (executed (executed base r) f.request) (executed base r)
    (λ h. let k : f.number ≡ base.last + 1 + 1 = eqb-true f.number (base.last + 1 + 1) h in absurd (omega (arith, own.0, at, k)))
    (λ h. inr refl) in
    let P : EndState → Type 0 = λ s. AtMostOnce base r (taken_frame s (Some f)) in
    elim once [ inl e ↦ subst P (sym e) first | inr e ↦ subst P (sym e) again ]

once-delivered : (n : ℕ) (r : Request) (base t : EndState) (list : List (List ℕ)) → base.last + 1 ≡ n
    → ((f : List ℕ) → Among f list → IsOwn n r f) → AtMostOnce base r t → AtMostOnce base r (all_delivered list t)
once-delivered n r base t [] at own once = once
once-delivered n r base t (f ∷ fs) at own once =
    once-delivered n r base (delivered t f) fs at (λ g k. own g (inr k)) (once-taken n r base t (request_of f) at (own f (inl refl)) once)

-- the target's end stays where it is, or comes to the host's number
reaches-taken : (n : ℕ) (r : Request) (t : EndState) (f : Option RequestFrame) → IfSome f (BelongsTo (host_of n r)) → Reaches n t → Reaches n (taken_frame t f)
reaches-taken n r t None own at = at
reaches-taken n r t (Some f) own at =
    if-either (Reaches n) (nat_eq f.number (t.last + 1)) (executed t f.request) t
    (λ h. let k : f.number ≡ t.last + 1 = eqb-true f.number (t.last + 1) h in
    elim at [ inl e ↦ inr e | inr e ↦ absurd (omega (arith, own.0, k, e)) ])
    (λ h. at)

reaches-delivered : (n : ℕ) (r : Request) (t : EndState) (list : List (List ℕ)) → ((f : List ℕ) → Among f list → IsOwn n r f)
    → Reaches n t → Reaches n (all_delivered list t)
reaches-delivered n r t [] own at = at
reaches-delivered n r t (f ∷ fs) own at =
    reaches-delivered n r (delivered t f) fs (λ g k. own g (inr k)) (reaches-taken n r t (request_of f) (own f (inl refl)) at)

-- answers stay right
agrees-taken : (t : EndState) (a : List ℕ) (f : Option RequestFrame) → Agrees t a → Agrees (taken_frame t f) a
agrees-taken t a None h = h
agrees-taken t a (Some f) h =
    if-either (λ s. Agrees s a) (nat_eq f.number (t.last + 1)) (executed t f.request) t
    (λ e. record {
      number = h.number;
      reply = h.reply;
      bytes = h.bytes;
      known = omega (arith, h.known);
      kept = λ k. absurd (omega (arith, h.known, k));
    })
    (λ e. h)

agrees-delivered : (t : EndState) (a : List ℕ) (list : List (List ℕ)) → Agrees t a → Agrees (all_delivered list t) a
agrees-delivered t a [] h = h
agrees-delivered t a (f ∷ fs) h = agrees-delivered (delivered t f) a fs (agrees-taken t a (request_of f) h)

some-inj : {A : Type 0} (x y : A) → Option.Some x ≡ Option.Some y → x ≡ y
some-inj x y h = ap (λ o. elim o [ None ↦ x | Some z ↦ z ]) h

agrees-kept : (s : EndState) (a : List ℕ) (f : Option RequestFrame) → kept_answer s f ≡ Some a → Agrees s a
agrees-kept s a None h = cc
agrees-kept s a (Some f) h =
    let P : Option (List ℕ) → Type 0 = λ o. o ≡ Option.Some a → Agrees s a in
    if-either P (nat_eq f.number s.last) (Some (answer_frame (record { number = s.last; reply = s.kept }))) None
    (λ e k. record {
      number = s.last;
      reply = s.kept;
      bytes = sym (some-inj (answer_frame (record { number = s.last; reply = s.kept })) a k);
      known = omega arith;
      kept = λ m. refl;
    })
    (λ e k. cc) h

agrees-given : (t : EndState) (a : List ℕ) (list : List (List ℕ)) → Among a (all_given list t) → Agrees (all_delivered list t) a
agrees-given t a [] h = absurd h
agrees-given t a (f ∷ fs) h = elim (among-append a (option_to_list (given t f)) (all_given fs (delivered t f)) h) [
  | inl k ↦ agrees-delivered (delivered t f) a fs (agrees-kept (delivered t f) a (request_of f) (among-option a (given t f) k))
  | inr k ↦ agrees-given (delivered t f) a fs k
]

-- a request raises the counts of Resets and Gos by one at most
abbrev Counts : TargetState → TargetState → Type 0
Counts t u = u.resets + u.goes ≤ t.resets + t.goes + 1

counts-same : (t : TargetState) → Counts t t
counts-same t = omega arith

counts-go : (status : ProgramStatus) (gates : ℕ) (t : TargetState) → Counts t (after_go status gates t).0
counts-go Unfinished gates t = omega arith
counts-go Ended gates t = omega arith
counts-go (Failed number) gates t = omega arith

counts-if : (t : TargetState) (b : Bool) (x y : TargetState × Reply) → Counts t x.0 → Counts t y.0 → Counts t (if b then x else y).0
counts-if t true x y h k = h
counts-if t false x y h k = k

counts-served : (r : Request) (t : TargetState) → Counts t (served r t).0
counts-served request.Reset t = omega arith
counts-served (request.Poke place words) t = counts-if t _ _ _ (counts-same t) (counts-same t)
counts-served (request.Peek place count) t = counts-if t _ _ _ (counts-same t) (counts-same t)
counts-served request.Registers t = omega arith
counts-served (request.Gate place breaks) t = counts-if t _ _ _ (counts-same t) (counts-same t)
counts-served (request.Go gates) t = counts-go t.status gates t
counts-served request.Drain t = omega arith
counts-served (request.Feed total piece) t = counts-if t _ _ _ (counts-same t) (counts-same t)

counts-after : (t : TargetState) (r : Request) → Counts t (target_after t r)
unfolding target_after
counts-after t r = counts-served r t

abbrev IsCounted : EndState → Type 0
IsCounted t = t.target.resets + t.target.goes ≤ t.last

counted-taken : (t : EndState) (f : Option RequestFrame) → IsCounted t → IsCounted (taken_frame t f)
counted-taken t None h = h
counted-taken t (Some f) h =
    let more : Counts t.target (target_after t.target f.request) = counts-after t.target f.request in
    if-either IsCounted (nat_eq f.number (t.last + 1)) (executed t f.request) t (λ e. omega (arith, more, h)) (λ e. h)

counted-delivered : (t : EndState) (list : List (List ℕ)) → IsCounted t → IsCounted (all_delivered list t)
counted-delivered t [] h = h
counted-delivered t (f ∷ fs) h = counted-delivered (delivered t f) fs (counted-taken t (request_of f) h)

-- what the frame of the waiting request says
own-frame : (n : ℕ) (r : Request) (o : Option RequestFrame) → o ≡ Some (record { number = n; request = r }) → IfSome o (BelongsTo (host_of n r))
own-frame n r o e =
    subst (λ (x : Option RequestFrame). IfSome x (BelongsTo (host_of n r))) (sym e) (omega arith, λ k. refl)

pub exchange-own : (n : ℕ) (r : Request) (f frame : List ℕ) (frames : List (List ℕ)) → request_of frame ≡ Some (record { number = n; request = r })
    → ((g : List ℕ) → Among g frames → IsOwn n r g) → Among f (frames_with frame frames) → IsOwn n r f
exchange-own n r f frame frames says own h = elim (among-take KEPT_FRAMES f (frame ∷ frames) h) [
  | inl e ↦ subst (IsOwn n r) (sym e) (own-frame n r (request_of frame) says)
  | inr k ↦ own f k
]

-- an exchange of the waiting request's frame keeps host and link in step
pub exchange-step : (n : ℕ) (r : Request) (frame : List ℕ) (heard : Option (List ℕ)) (t s : EndState) (frames olds news : List (List ℕ)) (c d : ℕ)
    → request_of frame ≡ Some (record { number = n; request = r })
    → IsSynchronized (host_of n r) t frames olds → Exchanged frame heard t s frames olds news c d
    → IsSynchronized (host_of n r) s (frames_with frame frames) news
exchange-step n r frame heard t s frames olds news c d says step e =
    let each : (f : List ℕ) → Among f e.deliveries → IsOwn n r f = λ f k. exchange-own n r f frame frames says step.sent (e.sent f k) in
    record {
      at = (step.at.0, subst (Reaches n) (sym e.took) (reaches-delivered n r t e.deliveries each step.at.1));
      sent = λ f k. exchange-own n r f frame frames says step.sent k;
      answered = λ a k. subst (λ (u : EndState). Agrees u a) (sym e.took) (elim (e.answers a k) [
        | inl old ↦ agrees-delivered t a e.deliveries (step.answered a old)
        | inr new ↦ agrees-given t a e.deliveries new
      ]);
      counted = subst IsCounted (sym e.took) (counted-delivered t e.deliveries step.counted);
    }

pub step-once : (n : ℕ) (r : Request) (frame : List ℕ) (heard : Option (List ℕ)) (t s : EndState) (frames olds news : List (List ℕ)) (c d : ℕ)
    → request_of frame ≡ Some (record { number = n; request = r })
    → IsSynchronized (host_of n r) t frames olds → Exchanged frame heard t s frames olds news c d
    → (base : EndState) → base.last + 1 ≡ n → AtMostOnce base r t → AtMostOnce base r s
step-once n r frame heard t s frames olds news c d says step e base at once =
    subst (AtMostOnce base r) (sym e.took)
    (once-delivered n r base t e.deliveries at (λ f k. exchange-own n r f frame frames says step.sent (e.sent f k)) once)

-- a kept reply is read back from its answer's frame
kept-read : (s : EndState) → IsReadReply s.kept → (n : ℕ) → s.last ≡ n → 0 < n → n < 2 ^ 64
    → answer_of (answer_frame (record { number = s.last; reply = s.kept })) ≡ Some (record { number = s.last; reply = s.kept })
unfolding IsReadReply
kept-read s reads n last some fits = reads s.last (omega (arith, last, some), omega (arith, last, fits))

-- an answer with the request's number is the target's kept reply
pub step-reply : (n : ℕ) (r : Request) (a : List ℕ) (reply : Reply) (s : EndState) (frames news : List (List ℕ)) → n < 2 ^ 64
    → IsSynchronized (host_of n r) s frames news → IsReadReply s.kept → Among a news → answer_of a ≡ Some (record { number = n; reply = reply })
    → (s.last ≡ n) × (s.kept ≡ reply)
step-reply n r a reply s frames news fits step reads among read =
    let agrees = step.answered a among in
    let bound : s.last ≤ n = elim step.at.1 [ inl e ↦ omega (arith, e) | inr e ↦ omega (arith, e) ] in
    let same : n ≡ agrees.number =
    answer_of-number (record { number = agrees.number; reply = agrees.reply }) (record { number = n; reply = reply })
    (omega (arith, agrees.known, bound, fits)) (ap answer_of (sym agrees.bytes) ∙ read) in
    let last : s.last ≡ n = elim step.at.1 [
      | inl e ↦ absurd (omega (arith, agrees.known, same, e))
      | inr e ↦ e
    ] in
    let kept : agrees.reply ≡ s.kept = agrees.kept (sym same ∙ sym last) in
    let bytes : a ≡ answer_frame (record { number = s.last; reply = s.kept }) =
    agrees.bytes ∙ ap (λ (m : ℕ). answer_frame (record { number = m; reply = agrees.reply })) (sym same ∙ sym last)
    ∙ ap (λ (x : Reply). answer_frame (record { number = s.last; reply = x })) kept in
    let found = sym (kept-read s reads n last step.at.0 fits) ∙ ap answer_of (sym bytes) ∙ read in
    (last, ap (λ (f : AnswerFrame). f.reply) (some-inj (record { number = s.last; reply = s.kept }) (record { number = n; reply = reply }) found))

last-taken : (t : EndState) (f : RequestFrame) → Reaches f.number t → (taken_frame t (Some f)).last ≡ f.number
last-taken t f at =
    if-either (λ s. s.last ≡ f.number) (nat_eq f.number (t.last + 1)) (executed t f.request) t
    (λ h. sym (eqb-true f.number (t.last + 1) h))
    (λ h. elim at [ inl e ↦ absurd (true-false (sym (eq-eqb f.number (t.last + 1) (sym e)) ∙ h)) | inr e ↦ e ])

kept-own : (s : EndState) (f : RequestFrame) → s.last ≡ f.number → kept_answer s (Some f) ≡ Some (answer_frame (record { number = s.last; reply = s.kept }))
kept-own s f last =
    ap (λ (b : Bool). if b then Option.Some (answer_frame (record { number = s.last; reply = s.kept })) else None) (eq-eqb f.number s.last (sym last))

-- where the request's answer is not heard, the link's count rose
pub step-down : (n : ℕ) (r : Request) (frame : List ℕ) (heard : Option (List ℕ)) (t s : EndState) (frames olds news : List (List ℕ)) (c d : ℕ)
    → n < 2 ^ 64 → request_of frame ≡ Some (record { number = n; request = r })
    → IsSynchronized (host_of n r) t frames olds → Exchanged frame heard t s frames olds news c d
    → ((a : List ℕ) → heard ≡ Some a → (p : AnswerFrame) → answer_of a ≡ Some p → p.number ≡ n → ⊥) → c < d
step-down n r frame heard t s frames olds news c d fits says step e unheard = elim e.clean [
  | inl rose ↦ rose
  | inr k ↦
      let f : RequestFrame = record { number = n; request = r } in
      let u : EndState = taken_frame t (Some f) in
      let last : u.last ≡ n = last-taken t f step.at.1 in
      let came : s ≡ u = e.took ∙ ap (λ (fs : List (List ℕ)). all_delivered fs t) k.0 ∙ ap (taken_frame t) says in
      let answer : heard ≡ Option.Some (answer_frame (record { number = u.last; reply = u.kept })) =
      k.1 ∙ ap (λ (o : Option RequestFrame). kept_answer (taken_frame t o) o) says ∙ kept-own u f last in
      absurd (unheard (answer_frame (record { number = u.last; reply = u.kept })) answer (record { number = u.last; reply = u.kept })
      (kept-read u (subst (λ (x : EndState). IsReadReply x.kept) came e.reads) n last step.at.0 fits) last)
]

-- what the frame that was written for a request says
pub frame-says : (r : Request) (n : ℕ) (frame : List ℕ) → IsReadRequest r → 0 < n → n < 2 ^ 64
    → frame ≡ request_frame (record { number = n; request = r }) → request_of frame ≡ Some (record { number = n; request = r })
unfolding IsReadRequest
frame-says r n frame reads some fits e = ap request_of e ∙ reads n (some, fits)

-- so that request waits
pub says-waiting : (r : Request) (n : ℕ) (frame : List ℕ) → request_of frame ≡ Some (record { number = n; request = r }) → request_in_frame frame ≡ Some r
says-waiting r n frame e = ap (λ (o : Option RequestFrame). option_map (λ (f : RequestFrame). f.request) o) e

-- a new request
pub begins : (t : EndState) (frames olds : List (List ℕ)) (n : ℕ) (r : Request) → IsSynchronized (record { number = n; waits = None }) t frames olds
    → IsSynchronized (host_of (n + 1) r) t frames olds
begins t frames olds n r s = record {
  at = (omega arith, inl (ap (λ k. k + 1) s.at));
  sent = λ f k. newer (request_of f) (s.sent f k);
  answered = s.answered;
  counted = s.counted;
}
  where
    newer : (o : Option RequestFrame) → IfSome o (BelongsTo (record { number = n; waits = Option.None })) → IfSome o (BelongsTo (host_of (n + 1) r))
    newer None h = tt
    newer (Some f) h = (omega (arith, h.0), λ e. absurd (omega (arith, h.0, e)))

-- it has its reply
pub settles : (t : EndState) (frames olds : List (List ℕ)) (n : ℕ) (r : Request) → IsSynchronized (host_of n r) t frames olds → t.last ≡ n
    → IsSynchronized (record { number = n; waits = None }) t frames olds
settles t frames olds n r s last = record {
  at = last;
  sent = λ f k. older (request_of f) (s.sent f k);
  answered = s.answered;
  counted = s.counted;
}
  where
    older : (o : Option RequestFrame) → IfSome o (BelongsTo (host_of n r)) → IfSome o (BelongsTo (record { number = n; waits = Option.None }))
    older None h = tt
    older (Some f) h = (h.0, λ e. tt)

-- a request is asked for the first time or again
pub starts : (t : EndState) (frames olds : List (List ℕ)) (n : ℕ) (waits : Option Request) (r : Request)
    → IsSynchronized (record { number = n; waits = waits }) t frames olds → IfSome waits (λ q. q ≡ r)
    → IsSynchronized (host_of (next_number waits n) r) t frames olds
starts t frames olds n None r s same = begins t frames olds n r s
starts t frames olds n (Some q) r s same = subst (λ (x : Request). IsSynchronized (host_of n x) t frames olds) same s

-- The same for the host that sends a frame, while the request that it says waits

sender-is : (n : ℕ) (frame : List ℕ) (says : IsKeptFrame true n frame) → sender n frame ≡ host_of n says.0
sender-is n frame says = ap (λ (w : Option Request). record { number = n; waits = w }) (says-waiting says.0 n frame says.1)

pub sender-step : (n : ℕ) (frame : List ℕ) (heard : Option (List ℕ)) (t s : EndState) (frames olds news : List (List ℕ)) (c d : ℕ)
    → IsKeptFrame true n frame → IsSynchronized (sender n frame) t frames olds → Exchanged frame heard t s frames olds news c d
    → IsSynchronized (sender n frame) s (frames_with frame frames) news
sender-step n frame heard t s frames olds news c d says step e =
    subst (λ (h : HostState). IsSynchronized h s (frames_with frame frames) news) (sym (sender-is n frame says))
    (exchange-step n says.0 frame heard t s frames olds news c d says.1
    (subst (λ (h : HostState). IsSynchronized h t frames olds) (sender-is n frame says) step) e)

pub sender-once : (n : ℕ) (frame : List ℕ) (heard : Option (List ℕ)) (t s : EndState) (frames olds news : List (List ℕ)) (c d : ℕ)
    → IsKeptFrame true n frame → IsSynchronized (sender n frame) t frames olds → Exchanged frame heard t s frames olds news c d
    → (r : Request) (base : EndState) → request_in_frame frame ≡ Some r → base.last + 1 ≡ n → AtMostOnce base r t → AtMostOnce base r s
sender-once n frame heard t s frames olds news c d says step e r base waits at once =
    let same : says.0 ≡ r = some-inj says.0 r (sym (says-waiting says.0 n frame says.1) ∙ waits) in
    subst (λ (q : Request). AtMostOnce base q s) same
    (step-once n says.0 frame heard t s frames olds news c d says.1
    (subst (λ (h : HostState). IsSynchronized h t frames olds) (sender-is n frame says) step) e base at
    (subst (λ (q : Request). AtMostOnce base q t) (sym same) once))

pub sender-reply : (n : ℕ) (frame a : List ℕ) (reply : Reply) (s : EndState) (frames news : List (List ℕ)) → n < 2 ^ 64
    → IsKeptFrame true n frame → IsSynchronized (sender n frame) s frames news → IsReadReply s.kept → Among a news
    → answer_of a ≡ Some (record { number = n; reply = reply }) → (s.last ≡ n) × (s.kept ≡ reply)
sender-reply n frame a reply s frames news fits says step reads among read =
    step-reply n says.0 a reply s frames news fits
    (subst (λ (h : HostState). IsSynchronized h s frames news) (sender-is n frame says) step) reads among read

pub sender-down : (n : ℕ) (frame : List ℕ) (heard : Option (List ℕ)) (t s : EndState) (frames olds news : List (List ℕ)) (c d : ℕ)
    → n < 2 ^ 64 → IsKeptFrame true n frame → IsSynchronized (sender n frame) t frames olds
    → Exchanged frame heard t s frames olds news c d
    → ((a : List ℕ) → heard ≡ Some a → (p : AnswerFrame) → answer_of a ≡ Some p → p.number ≡ n → ⊥) → c < d
sender-down n frame heard t s frames olds news c d fits says step e unheard =
    step-down n says.0 frame heard t s frames olds news c d fits says.1
    (subst (λ (h : HostState). IsSynchronized h t frames olds) (sender-is n frame says) step) e unheard

-- what was heard is this one
pub heard-this : (heard : Heard) (got : List ℕ) → heard ≡ Answer → answer_heard heard got ≡ Some got
heard-this heard got e = ap (λ (h : Heard). answer_heard h got) e

pub unheard-this : (heard : Heard) (got : List ℕ) (n : ℕ) → heard ≡ Answer → ((p : AnswerFrame) → answer_of got ≡ Some p → p.number ≡ n → ⊥)
    → (a : List ℕ) → answer_heard heard got ≡ Some a → (p : AnswerFrame) → answer_of a ≡ Some p → p.number ≡ n → ⊥
unheard-this heard got n e other a h p read = other p (ap answer_of (some-inj got a (sym (heard-this heard got e) ∙ h)) ∙ read)
