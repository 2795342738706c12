-- A node clashes exactly if it reaches both ends of a crossing.
use Prim.Native.Nat.{ℕ}
use mathlib.Core.Path.{refl}
use mathlib.Core.List.{List}
use mathlib.Core.Logic.{inl, inr, ⊎_swap}
use Rattle.theory.specs.Words.{is, isnt}
use Rattle.theory.specs.Nets.{Statements, Links, LegalWords}
use Rattle.theory.specs.Paths.{Crossing}
use Rattle.theory.proofs.support.Reach.{Up, here, Apart, trans, supported_reached, reached_supported}
use Rattle.theory.proofs.Legal.{legal_links}
use Rattle.theory.proofs.support.Joining.{ends}
use Rattle.theory.specs.Clashes.{ClashAt}

-- x reaches both ends of a crossing.
pub record Torn (L : Statements) (x : ℕ) : Type 0 where
  pub left : ℕ
  pub right : ℕ
  pub first : Up L left x
  pub second : Up L right x
  pub cross : Crossing L left right

abbrev pub turned_torn : {L : Statements} {x : ℕ} → Torn L x → Torn L x
turned_torn t = record { left = t.right; right = t.left; first = t.second; second = t.first; cross = ⊎_swap t.cross }

-- What is kept apart from something above it is torn.
pub apart_torn : {L : Statements} {x y : ℕ} → Up L y x → Apart L x y → Torn L x
apart_torn u a = record { left = a.left; right = a.right; first = a.first; second = trans u a.second; cross = a.cross }

module _ (o k : ℕ) (ws : List ℕ) (legal : LegalWords o k ws) where
  pub clash_torn : (x y : ℕ) → ClashAt o k ws x y → Torn (Links ws) x
  clash_torn x y c =
      let a = supported_reached o k (Links ws) (legal_links o k ws legal) c.is_yes in
      let b = supported_reached o k (Links ws) (legal_links o k ws legal) c.is_no in
      apart_torn a.0 b.0

  -- At the head of the crossing's link.
  at_head : (x l r : ℕ) → Up (Links ws) l x → Up (Links ws) r x → Links ws l r isnt → ClashAt o k ws x r
  at_head x l r f s c =
      let h = (legal_links o k ws legal).head l r isnt c in
      let yes-it = reached_supported o k (Links ws) (legal_links o k ws legal) x r is (s, h) in
      record {
        node = (ends o k (Links ws) (legal_links o k ws legal) x r is yes-it).0;
        kind = h;
        is_yes = yes-it;
        is_no = reached_supported o k (Links ws) (legal_links o k ws legal) x r isnt (record { left = l; right = r; first = f; cross = inl c; second = here refl }, h);
      }

  pub torn_clash : (x : ℕ) → Torn (Links ws) x → (y : ℕ) × ClashAt o k ws x y
  torn_clash x t = pick t.left t.right t.first t.second t.cross
    where
      pick : (l r : ℕ) → Up (Links ws) l x → Up (Links ws) r x → Crossing (Links ws) l r → (y : ℕ) × ClashAt o k ws x y
      pick l r f s (inl c) = (r, at_head x l r f s c)
      pick l r f s (inr c) = (l, at_head x r l s f c)
