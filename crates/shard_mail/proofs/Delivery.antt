-- Each kind of step keeps the rule of a mailbox, and tells what is said of it.
use Rattle.std.proofs.Common.{◌≡◌, ◌≢◌, ℕ, zero, suc, ◌<◌, ◌≤◌, Bool, List, [], ◌∷◌, ◌++◌, length, nat_eq, cond, Some, None, refl, sym, ap, ◌∙◌, subst, ⊎_elim, arith, append-nil, append_assoc}
use Rattle.std.proofs.lemmas.Option.{none-some}
use Rattle.std.proofs.lemmas.Bool.Decides.{nat_tests}
use Rattle.std.proofs.Math.ListN.{set}
use mathlib.Core.Option.{some, some-injective, some-ne-none}
use mathlib.Core.Logic.{dite}
use native.Mathlib.Decide.{ℕ_discrete}
use lib.ListN.{get_elem?}
use Rattle.std.specs.Coded.{Coded}
use Rattle.crossbeam_queue.specs.Fifo.{Pushes, Pops, Forks, Merges, Learns}
use Rattle.crossbeam_queue.proofs.Lists.{at_set, set_else}
use Rattle.shard_mail.specs.declared.view.View.{View}
use Rattle.shard_mail.specs.declared.view.Role.{Role}
use Rattle.shard_mail.specs.declared.view.Role.TheVariants as role
use Rattle.shard_mail.specs.Mails.{spent_view, taker_view, letters_of, LawfulUnder, Account, FitsPoster, FitsTaker, Fits, Mail}
use Rattle.shard_mail.specs.Steps.{after_make, made_view, after_post, after_take, after_end, Posts, Takes, Waits}
use Rattle.shard_mail.proofs.Letters.{at_last_or, at_front, at_here, last_or, of_append, of_own, of_other, some_of}

some≢none : {A : Type 0} (x : A) → Some x ≡ None → ⊥
some≢none x e = cc

posts≢takes : role.Posts ≡ role.Takes → ⊥
posts≢takes e = cc

-- a table of writers or lists, changed at one place
abbrev changed : {A : Type 0} → (ℕ → A) → ℕ → A → ℕ → A
changed f p a q = cond (nat_eq q p) a (f q)

changed_here : {A : Type 0} (f : ℕ → A) (p q : ℕ) (a : A) → q ≡ p → changed f p a q ≡ a
changed_here f p q a e = let t : nat_eq q p ≡ Bool.true = grind (arith, nat_tests) in ap (λ (b : Bool). cond b a (f q)) t

changed_else : {A : Type 0} (f : ℕ → A) (p q : ℕ) (a : A) → q ≢ p → changed f p a q ≡ f q
changed_else f p q a e = let t : nat_eq q p ≡ Bool.false = grind (arith, nat_tests) in ap (λ (b : Bool). cond b a (f q)) t

module _ {T : Type 0} where
  -- the taker stands among the views
  abbrev Reads : ℕ → List (View T) → Type 0
  Reads reader views = (v : View T) × (get_elem? views reader ≡ some v) × (v.role ≡ role.Takes)

  -- it stays there where a view changes and keeps its role
  reads_set : (reader id : ℕ) (views : List (View T)) (v w : View T) → get_elem? views id ≡ some v → w.role ≡ v.role → Reads reader views → Reads reader (set views id w)
  reads_set reader id views v w at same r = dite (ℕ_discrete reader id)
      (λ e. (w, subst (λ k. get_elem? (set views id w) k ≡ some w) (sym e) (at_here views id v w at), same ∙ (ap (λ (u : View T). u.role) (some-injective v r.0 (sym at ∙ (ap (get_elem? views) (sym e) ∙ r.1))) ∙ r.2)))
      (λ n. (r.0, set_else views id reader w n ∙ r.1, r.2))

  -- where a view comes
  reads_more : (reader : ℕ) (views : List (View T)) (w : View T) → Reads reader views → Reads reader (views ++ w ∷ [])
  reads_more reader views w r = (r.0, at_front views w r.0 reader r.1, r.2)

  -- and where a poster's view is spent
  reads_else : (reader id : ℕ) (views : List (View T)) (v w : View T) → get_elem? views id ≡ some v → v.role ≡ role.Posts → Reads reader views → Reads reader (set views id w)
  reads_else reader id views v w at posts r = dite (ℕ_discrete reader id)
      (λ e. absurd (posts≢takes (sym posts ∙ (ap (λ (u : View T). u.role) (some-injective v r.0 (sym at ∙ (ap (get_elem? views) (sym e) ∙ r.1))) ∙ r.2))))
      (λ n. (r.0, set_else views id reader w n ∙ r.1, r.2))

  -- a view fits by its role
  fits_taker : (a : Account T) (pass : ℕ) (v : View T) → v.role ≡ role.Takes → Fits a pass v.role v → FitsTaker a pass v
  fits_taker a pass v is f = subst (λ r. Fits a pass r v) is f

  fits_poster : (a : Account T) (pass : ℕ) (v : View T) → v.role ≡ role.Posts → Fits a pass v.role v → FitsPoster a pass v
  fits_poster a pass v is f = subst (λ r. Fits a pass r v) is f

  taker_fits : (a : Account T) (pass : ℕ) (v : View T) → v.role ≡ role.Takes → FitsTaker a pass v → Fits a pass v.role v
  taker_fits a pass v is f = subst (λ r. Fits a pass r v) (sym is) f

  poster_fits : (a : Account T) (pass : ℕ) (v : View T) → v.role ≡ role.Posts → FitsPoster a pass v → Fits a pass v.role v
  poster_fits a pass v is f = subst (λ r. Fits a pass r v) (sym is) f

  -- a view that is none of a step's own fits the new account where its poster and its taker do
  others : (a b : Account T) (pass : ℕ) (v : View T) → (FitsPoster a pass v → FitsPoster b pass v) → (FitsTaker a pass v → FitsTaker b pass v) → (r : Role) → Fits a pass r v → Fits b pass r v
  others a b pass v p t role.Spent f = f
  others a b pass v p t role.Posts f = p f
  others a b pass v p t role.Takes f = t f

module _ {T M : Type 0} (coded : Coded M) (lawful : M → List T → Type 0) (sender : T → ℕ)
    (starts : (terms : M) → lawful terms []) (begins : (terms : M) (xs ys : List T) → lawful terms (xs ++ ys) → lawful terms xs) where
  abbrev Rule : List T → List (View T) → Type 0
  Rule = Mail coded lawful sender

  -- a first taker alone
  pub opened : Rule [] (taker_view 0 [] ∷ [])
  opened = record {
    account = nothing;
    delivered = λ p. refl;
    allowed = λ p terms named. starts terms;
    each = λ i v e. first i v e;
    taker_there = (taker_view 0 [], refl, refl);
  }
    where
      nothing : Account T
      nothing = record { reader = 0; writer = λ p. None; sent = λ p. []; senders = 0; terms = []; taken = [] }

      first : (i : ℕ) (v : View T) → get_elem? (taker_view 0 [] ∷ []) i ≡ some v → Fits nothing i v.role v
      first zero v e = subst (λ u. Fits nothing 0 u.role u) (some-injective (taker_view 0 []) v e)
          (record { alone = refl; taken = refl; senders_are = refl; terms_are = refl; few = omega arith; unmade = λ p le. (refl, refl); ended = λ k e at. absurd (none-some e at) })
      first (suc i) v e = absurd (some-ne-none v (sym e))

  -- the taker, before it has made a poster, fixes the terms and the number of senders
  pub opens : (id senders : ℕ) (terms : List ℕ) → Forks Rule id (taker_view 0 []) (taker_view senders terms) spent_view
  opens id senders terms items views m at =
      let v : View T = taker_view 0 [] in
      let mine : FitsTaker m.account id v = m.each id v at in
      let unmade : (p : ℕ) → (m.account.writer p ≡ None) × (m.account.sent p ≡ []) = λ p. mine.unmade p (omega arith) in
      let left : View T = taker_view senders terms in
      let vs = set views id left in
      let new : Account T = record m.account { senders = senders; terms = terms } in
      record {
        account = new;
        delivered = m.delivered;
        allowed = λ p given named. subst (lawful given) (sym (unmade p).1) (starts given);
        each = λ j u e. ⊎_elim
            (λ old. ⊎_elim
            (λ own. subst (λ (y : View T). Fits new j y.role y) own.1
            (record { alone = own.0 ∙ mine.alone; taken = mine.taken; senders_are = refl; terms_are = refl; few = omega arith; unmade = λ p le. unmade p; ended = λ k e at. mine.ended k e at }))
            (λ other. others m.account new j u
            (λ f. absurd (some≢none j (sym f.alone ∙ (unmade u.number).0)))
            (λ f. absurd (other.0 (f.alone ∙ sym mine.alone)))
            u.role (m.each j u other.1))
            (at_set views id j left u old))
            (λ is. subst (λ (y : View T). Fits new j y.role y) is.1 refl)
            (at_last_or vs spent_view u j e);
        taker_there = reads_more m.account.reader vs spent_view (reads_set m.account.reader id views v left at refl m.taker_there);
      }

  -- the taker makes the next poster
  pub makes : (id : ℕ) (v : View T) → v.role ≡ role.Takes → v.made < v.senders → Forks Rule id v (after_make v) (made_view v)
  makes id v takes room items views m at =
      let mine = fits_taker m.account id v takes (m.each id v at) in
      let left = after_make v in
      let right : View T = made_view v in
      let vs = set views id left in
      let fresh = mine.unmade v.made (omega arith) in
      let new : Account T = record m.account { writer = changed m.account.writer v.made (Some (length vs)) } in
      let apart : (p : ℕ) → p ≢ v.made → new.writer p ≡ m.account.writer p = λ p n. changed_else m.account.writer v.made p (Some (length vs)) n in
      let still : (p j : ℕ) → m.account.writer p ≡ Some j → new.writer p ≡ Some j = λ p j is. apart p (λ same. some≢none j (sym is ∙ (ap m.account.writer same ∙ fresh.0))) ∙ is in
      record {
        account = new;
        delivered = m.delivered;
        allowed = m.allowed;
        each = λ j u e. ⊎_elim
            (λ old. ⊎_elim
            (λ own. subst (λ (y : View T). Fits new j y.role y) own.1 (taker_fits new j left takes
            (record {
              alone = own.0 ∙ mine.alone;
              taken = mine.taken;
              senders_are = mine.senders_are;
              terms_are = mine.terms_are;
              few = omega arith;
              unmade = λ p le. (let h = mine.unmade p (omega arith) in (apart p (λ same. let is : p ≡ v.made = same in omega arith) ∙ h.0, h.1));
              ended = λ k e here. (let h = mine.ended k e here in (omega (arith, h.0), apart e.0 (λ same. let is : e.0 ≡ v.made = same in let low = h.0 in omega arith) ∙ h.1, h.2));
            })))
            (λ other. others m.account new j u
            (λ f. record { alone = still u.number j f.alone; below = f.below; posted = f.posted; senders_are = f.senders_are; terms_are = f.terms_are })
            (λ f. absurd (other.0 (f.alone ∙ sym mine.alone)))
            u.role (m.each j u other.1))
            (at_set views id j left u old))
            (λ is. subst (λ (y : View T). Fits new j y.role y) is.1
            (record { alone = changed_here m.account.writer v.made v.made (Some (length vs)) refl ∙ ap Some (sym is.0); below = (let s = mine.senders_are in omega arith); posted = sym fresh.1; senders_are = mine.senders_are; terms_are = mine.terms_are }))
            (at_last_or vs right u j e);
        taker_there = reads_more m.account.reader vs right (reads_set m.account.reader id views v left at refl m.taker_there);
      }

  -- a poster posts a letter of its own
  pub posts : (n id : ℕ) (v : View T) (x : T) → v.role ≡ role.Posts → sender x ≡ v.number → LawfulUnder coded lawful v.terms (v.posted ++ x ∷ []) → Pushes Rule n id v x (Posts v x)
  posts n id v x may own may_post items views room m at =
      let mine = fits_poster m.account id v may (m.each id v at) in
      let w = after_post v x in
      let a = m.account in
      let more = a.sent v.number ++ x ∷ [] in
      let sent : ℕ → List T = changed a.sent v.number more in
      let new : Account T = record a { sent = sent } in
      let sent_here : (p : ℕ) → p ≡ v.number → sent p ≡ more = λ p same. changed_here a.sent v.number p more same in
      let sent_else : (p : ℕ) → p ≢ v.number → sent p ≡ a.sent p = λ p apart. changed_else a.sent v.number p more apart in
      let unwritten : (p : ℕ) → a.writer p ≡ None → p ≢ v.number = λ p none same. some≢none id (sym mine.alone ∙ (ap a.writer (sym same) ∙ none)) in
      let on : (p : ℕ) → letters_of sender p (a.taken ++ (items ++ x ∷ [])) ≡ a.sent p ++ letters_of sender p (x ∷ []) = λ p.
      ap (letters_of sender p) (sym (append_assoc a.taken items (x ∷ []))) ∙ (of_append sender p (a.taken ++ items) (x ∷ []) ∙ ap (λ (ys : List T). ys ++ letters_of sender p (x ∷ [])) (m.delivered p)) in (
        w,
        record {
          account = new;
          delivered = λ p. dite (ℕ_discrete p v.number)
              (λ same. on p ∙ (ap (λ (ys : List T). a.sent p ++ ys) (of_own sender p x (own ∙ sym same)) ∙ (ap (λ (q : ℕ). a.sent q ++ x ∷ []) same ∙ sym (sent_here p same))))
              (λ apart. on p ∙ (ap (λ (ys : List T). a.sent p ++ ys) (of_other sender p x (λ e. apart (sym e ∙ own))) ∙ (append-nil (a.sent p) ∙ sym (sent_else p apart))));
          allowed = λ p terms named. dite (ℕ_discrete p v.number)
              (λ same. subst (lawful terms) (ap (λ (ys : List T). ys ++ x ∷ []) mine.posted ∙ sym (sent_here p same)) (may_post terms (named ∙ sym mine.terms_are)))
              (λ apart. subst (lawful terms) (sym (sent_else p apart)) (m.allowed p terms named));
          each = λ j u e. ⊎_elim
              (λ here. subst (λ (y : View T). Fits new j y.role y) here.1 (poster_fits new j w may
              (record { alone = mine.alone ∙ ap Some (sym here.0); below = mine.below; posted = ap (λ (ys : List T). ys ++ x ∷ []) mine.posted ∙ sym (sent_here v.number refl); senders_are = mine.senders_are; terms_are = mine.terms_are })))
              (λ other. others a new j u
              (λ f. record {
                alone = f.alone;
                below = f.below;
                posted = f.posted ∙ sym (sent_else u.number (λ same. other.0 (one_pass j id (sym f.alone ∙ (ap a.writer same ∙ mine.alone)))));
                senders_are = f.senders_are;
                terms_are = f.terms_are;
              })
              (λ f. record {
                alone = f.alone;
                taken = f.taken;
                senders_are = f.senders_are;
                terms_are = f.terms_are;
                few = f.few;
                unmade = λ p le. (let h = f.unmade p le in (h.0, sent_else p (unwritten p h.0) ∙ h.1));
                ended = λ k e here. (let h = f.ended k e here in (h.0, h.1, h.2 ∙ sym (sent_else e.0 (unwritten e.0 h.1))));
              })
              u.role (m.each j u other.1))
              (at_set views id j w u e);
          taker_there = reads_set a.reader id views v w at refl m.taker_there;
        },
        refl,
      )
    where
      one_pass : (j i : ℕ) → Some j ≡ Some i → j ≡ i
      one_pass j i e = cc

  -- the taker takes the first letter
  pub takes : (id : ℕ) (v : View T) → v.role ≡ role.Takes → Pops Rule id v (Takes coded lawful sender v)
  takes id v may x items views m at =
      let mine = fits_taker m.account id v may (m.each id v at) in
      let a = m.account in
      let w = after_take v x in
      let taken = a.taken ++ x ∷ [] in
      let new : Account T = record a { taken = taken } in
      let s = sender x in
      let on : (p : ℕ) → letters_of sender p (taken ++ items) ≡ a.sent p = λ p. ap (letters_of sender p) (append_assoc a.taken (x ∷ []) items) ∙ m.delivered p in
      let front : (p : ℕ) → letters_of sender p (v.taken ++ x ∷ []) ++ letters_of sender p items ≡ a.sent p = λ p.
      ap (λ (ys : List T). letters_of sender p (ys ++ x ∷ []) ++ letters_of sender p items) mine.taken ∙ (sym (of_append sender p taken items) ∙ on p) in (
        w,
        record {
          account = new;
          delivered = on;
          allowed = m.allowed;
          each = λ j u e. ⊎_elim
              (λ here. subst (λ (y : View T). Fits new j y.role y) here.1 (taker_fits new j w may
              (record { alone = here.0 ∙ mine.alone; taken = ap (λ (ys : List T). ys ++ x ∷ []) mine.taken; senders_are = mine.senders_are; terms_are = mine.terms_are; few = mine.few; unmade = mine.unmade; ended = mine.ended })))
              (λ other. others a new j u
              (λ f. record { alone = f.alone; below = f.below; posted = f.posted; senders_are = f.senders_are; terms_are = f.terms_are })
              (λ f. absurd (other.0 (f.alone ∙ sym mine.alone)))
              u.role (m.each j u other.1))
              (at_set views id j w u e);
          taker_there = reads_set a.reader id views v w at refl m.taker_there;
        },
        (
          refl,
          record {
            known = below s (λ le. some_of sender a.taken items x (m.delivered s ∙ (mine.unmade s le).1)) mine.few;
            allowed = λ terms named. begins terms (letters_of sender s (v.taken ++ x ∷ [])) (letters_of sender s items) (subst (lawful terms) (sym (front s)) (m.allowed s terms (named ∙ mine.terms_are)));
            begun = λ k e here. (letters_of sender e.0 items, front e.0 ∙ sym (mine.ended k e here).2);
          },
        ),
      )
    where
      below : (s : ℕ) → (v.made ≤ s → ⊥) → v.made ≤ v.senders → s < v.senders
      below s not few = grind arith

  -- where the mailbox is looked at, ended posters' letters were taken or wait
  pub learns : (id : ℕ) (v : View T) → v.role ≡ role.Takes → Learns Rule id v (Waits sender v)
  learns id v may items views m at k e here =
      let mine = fits_taker m.account id v may (m.each id v at) in
      ap (λ (ys : List T). letters_of sender e.0 (ys ++ items)) mine.taken ∙ (m.delivered e.0 ∙ sym (mine.ended k e here).2)

  -- a poster ends, and the taker keeps its list
  pub ends : (id : ℕ) (v : View T) (other : ℕ) (w : View T) → v.role ≡ role.Takes → w.role ≡ role.Posts → Merges Rule id v other w (after_end v w) spent_view
  ends id v other w takes posts items views m at apart at_other =
      let mine = fits_taker m.account id v takes (m.each id v at) in
      let a = m.account in
      let both = after_end v w in
      let vs = set views id both in
      let was : get_elem? views other ≡ some w = sym (set_else views id other both apart) ∙ at_other in
      let theirs = fits_poster a other w posts (m.each other w was) in
      let new : Account T = record a { writer = changed a.writer w.number None } in
      let gone : (p : ℕ) → p ≡ w.number → new.writer p ≡ None = λ p same. changed_here a.writer w.number p None same in
      let same_writer : (p : ℕ) → p ≢ w.number → new.writer p ≡ a.writer p = λ p n. changed_else a.writer w.number p None n in
      let was_made : w.number < v.made = made (λ le. some≢none other (sym theirs.alone ∙ (mine.unmade w.number le).0)) in
      let none_there : (p : ℕ) → a.writer p ≡ None → new.writer p ≡ None = λ p none. same_writer p (λ same. some≢none other (sym theirs.alone ∙ (ap a.writer (sym same) ∙ none))) ∙ none in
      record {
        account = new;
        delivered = m.delivered;
        allowed = m.allowed;
        each = λ j u e. ⊎_elim
            (λ own. subst (λ (y : View T). Fits new j y.role y) own.1 refl)
            (λ old. ⊎_elim
            (λ own. subst (λ (y : View T). Fits new j y.role y) own.1 (taker_fits new j both takes
            (record {
              alone = own.0 ∙ mine.alone;
              taken = mine.taken;
              senders_are = mine.senders_are;
              terms_are = mine.terms_are;
              few = mine.few;
              unmade = λ p le. (let h = mine.unmade p le in (none_there p h.0, h.1));
              ended = λ k e here. ⊎_elim
                  (λ before. let h = mine.ended k e before in (h.0, none_there e.0 h.1, h.2))
                  (λ is. subst (λ (d : ℕ × List T). (d.0 < v.made) × (new.writer d.0 ≡ None) × (d.1 ≡ a.sent d.0)) is.1 (was_made, gone w.number refl, theirs.posted))
                  (last_or v.ended (w.number, w.posted) e k here);
            })))
            (λ rest. others a new j u
            (λ f. record {
              alone = same_writer u.number (λ same. old.0 (one_pass j other (sym f.alone ∙ (ap a.writer same ∙ theirs.alone)))) ∙ f.alone;
              below = f.below;
              posted = f.posted;
              senders_are = f.senders_are;
              terms_are = f.terms_are;
            })
            (λ f. absurd (rest.0 (f.alone ∙ sym mine.alone)))
            u.role (m.each j u rest.1))
            (at_set views id j both u old.1))
            (at_set vs other j spent_view u e);
        taker_there = reads_else a.reader other vs w spent_view at_other posts (reads_set a.reader id views v both at refl m.taker_there);
      }
    where
      one_pass : (j i : ℕ) → Some j ≡ Some i → j ≡ i
      one_pass j i e = cc

      made : (v.made ≤ w.number → ⊥) → w.number < v.made
      made not = grind arith
